-- `put_three` meets its contract: three stores. Assumes nothing.
use Prim.Native.Nat.{◌+◌, ◌*◌}
use lib.ListN.{set, length-set}
use native.Mathlib.Omega.{arith}
use mathlib.Core.Path.{refl}
use Rattle.playing.specs.Playing.{written}
use Rattle.playing.proofs.put_three.Goals as goal

pub bounds-out-place-2 : goal.bounds-out-place-2
bounds-out-place-2 c = omega (arith, length-set c.args.out.now (3 * c.args.k) c.args.x, c.requires)

pub bounds-out-place-3 : goal.bounds-out-place-3
bounds-out-place-3 c = let one = set c.args.out.now (3 * c.args.k) c.args.x in
    omega (arith, length-set c.args.out.now (3 * c.args.k) c.args.x, length-set one (3 * c.args.k + 1) c.args.y, c.requires)

pub returns : goal.returns
unfolding written
returns c = refl
