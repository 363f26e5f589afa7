-- `fit` meets its contract: the picture goes from a local buffer to the lent one. Assumes nothing.
use borrow.Author.Rules.{rules}
use native.Mathlib.Omega.{arith}
use lib.Seq.{length-take-le}
use Rattle.pictures.proofs.Laws.Calls.{picture_fits, picture-length, fit-not, fit_all}
use Rattle.pictures.proofs.fit.Goals as goal

pub returns-then-text-length : goal.returns-then-text-length
returns-then-text-length c = search fit-not

pub slice_bounds-drawn-end : goal.slice_bounds-drawn-end
slice_bounds-drawn-end c = picture_fits _ _ _ _ _ c.requires (search rules) c.draw-length.ensures

pub slice_bounds-copy_from_slice-end-3 : goal.slice_bounds-copy_from_slice-end-3
slice_bounds-copy_from_slice-end-3 c = picture-length _ _ _ _ _ c.requires (search rules) c.draw-length.ensures

pub copy_from_slice-requires : goal.copy_from_slice-requires
copy_from_slice-requires c = omega (arith, length-take-le _ _ c.if-text-length.false, length-take-le _ _ (picture_fits _ _ _ _ _ c.requires (search rules) c.draw-length.ensures))

pub returns : goal.returns
returns c = fit_all _ _ _ _ _ _ _ c.requires (search rules) c.draw-length.ensures c.if-text-length.false c.copy_from_slice.ensures.after
