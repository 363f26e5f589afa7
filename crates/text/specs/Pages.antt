-- What is put on a page, and what still fits on it.
use Rattle.std.specs.Prelude.{◌≡◌, ℕ, ◌+◌, ◌≤◌, List, length}
use Rattle.text.specs.Text.{pasted}
use Rattle.text.specs.declared.Page.{Page}

-- These bytes stand from the page's place on, its place is after the last of them, and all else is as it was.
pub record Puts (old : Page) (bytes : List ℕ) (new : Page) : Type 0 where
  pub text_is : new.text ≡ record old.text { now = pasted old.text.now old.at bytes }
  pub at_is : new.at ≡ old.at + length bytes

-- So many bytes fit.
abbrev pub HasRoom : Page → ℕ → Type 0
HasRoom p k = p.at + k ≤ length p.text.now

-- The lines that a function puts: what each is, and that none has more than so many bytes.
pub record Lines : Type 0 where
  pub line : ℕ → List ℕ
  pub most : ℕ
  pub short : (k : ℕ) → length (line k) ≤ most
