-- `is_picture` meets its contract: all bytes are compared. Assumes nothing.
use borrow.Author.Rules.{rules}
use Rattle.pictures.proofs.Laws.Calls.{picture_fits, picture-length, same_picture}
use Rattle.pictures.proofs.is_picture.Goals as goal

pub slice_bounds-drawn-end : goal.slice_bounds-drawn-end
slice_bounds-drawn-end c = picture_fits _ _ _ _ _ c.requires (search rules) c.draw-length.ensures

pub slice_bounds-eq-end : goal.slice_bounds-eq-end
slice_bounds-eq-end c = picture-length _ _ _ _ _ c.requires (search rules) c.draw-length.ensures

pub returns : goal.returns
returns c = same_picture _ _ _ _ _ _ _ c.requires (search rules) c.draw-length.ensures c.eq.ensures
