-- `put_letters` meets its contract: one copy. Assumes nothing.
use mathlib.Core.Path.{refl, ap}
use mathlib.Core.List.{List}
use Prim.Native.Nat.{ℕ}
use Rattle.text.proofs.Laws.Writing.{letters_copied}
use Rattle.text.proofs.Page.put_letters.Goals as goal

pub returns : goal.returns
returns c = record {
  text_is = ap (λ (l : List ℕ). record c.args.self.now.text { now = l }) (letters_copied _ _ _ _ c.requires c.copy_from_slice.ensures.after);
  at_is = refl;
}
