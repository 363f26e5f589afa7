-- The one law behind every theorem that a contract leaves nothing open. Assumes nothing.
use mathlib.Core.Path.{◌≡◌, sym, ◌∙◌}

-- Two things that equal a third are the same.
pub alike : {A : Type 0} {x a b : A} → a ≡ x → b ≡ x → a ≡ b
alike e f = e ∙ sym f
