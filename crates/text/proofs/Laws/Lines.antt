-- Lines one after the other: along a loop that writes them, from the first on, and how long they are. Assumes nothing.
use mathlib.Core.Path.{◌≡◌, refl, sym, ap, ◌∙◌}
use mathlib.Core.List.{List, [], ◌++◌, append-nil, append_assoc}
use Prim.Native.Nat.{ℕ, zero, suc, ◌+◌, ◌*◌, ◌≤◌, ◌<◌}
use native.Mathlib.Nat.{suc-mul, mul-le-mul_right}
use native.Mathlib.Numerals.{add-one}
use native.Mathlib.Omega.{arith}
use lib.ListN.{length, length-append}
use Rattle.text.specs.Text.{lines}
use Rattle.text.specs.Pages.{Puts, HasRoom, Lines}
use Rattle.text.specs.declared.Page.{Page}
use Rattle.text.proofs.Laws.Writing.{puts_then, puts_kept}

-- ---- lines of at most m bytes

pub length-lines : (f : ℕ → List ℕ) (m k : ℕ) → ((i : ℕ) → length (f i) ≤ m) → length (lines f k) ≤ k * m
unfolding lines
length-lines f m zero h = omega arith
length-lines f m (suc k) h = omega (arith, length-append (lines f k) (f k), length-lines f m k h, h k, suc-mul k m)

lines_more : (f : ℕ → List ℕ) (k : ℕ) → lines f k ++ f k ≡ lines f (k + 1)
unfolding lines
lines_more f k = ap (lines f) (sym (add-one k))

-- before line k of n the first k stand
pub lining_room : (o : Lines) {p q : Page} (n k : ℕ) → Puts p (lines o.line k) q → k < n → HasRoom p (n * o.most) → HasRoom q o.most
lining_room o n k h l r = omega (arith, h.at_is, puts_kept h, length-lines o.line o.most k o.short, suc-mul k o.most, mul-le-mul_right o.most l)

pub lining_step : (o : Lines) {p q r : Page} (k : ℕ) → Puts p (lines o.line k) q → Puts q (o.line k) r → Puts p (lines o.line (k + 1)) r
lining_step o k h i = rw (sym (lines_more o.line k)) (puts_then h i)

-- lines that are alike one by one are alike together
pub lines_same : (f g : ℕ → List ℕ) (k : ℕ) → ((i : ℕ) → i < k → f i ≡ g i) → lines f k ≡ lines g k
unfolding lines
lines_same f g zero h = refl
lines_same f g (suc k) h =
    let e : lines f k ≡ lines g k = lines_same f g k (λ i l. h i (omega arith)) in
    rw (e, h k (omega arith))

-- ---- the length of lines, line by line

pub length-lines-none : (f : ℕ → List ℕ) → length (lines f 0) ≡ 0
unfolding lines
length-lines-none f = refl

pub length_lines_more : (f : ℕ → List ℕ) (k : ℕ) → length (lines f (suc k)) ≡ length (lines f k) + length (f k)
unfolding lines
length_lines_more f k = length-append (lines f k) (f k)

-- ---- the same lines from the first on

-- The next k lines, from place p on.
unfoldable pub from : (ℕ → List ℕ) → ℕ → ℕ → List ℕ
from f p zero = []
from f p (suc k) = f p ++ from f (p + 1) k

lines_then : (f : ℕ → List ℕ) (k p : ℕ) → lines f (p + k) ≡ lines f p ++ from f p k
unfolding from
lines_then f zero p = let e : p + 0 ≡ p = omega arith in ap (lines f) e ∙ sym (append-nil (lines f p))
lines_then f (suc k) p =
    let e : p + suc k ≡ p + 1 + k = omega arith in
    ap (lines f) e ∙ (lines_then f k (p + 1) ∙ rw (sym (lines_more f p), append_assoc))

pub lines_from : (f : ℕ → List ℕ) (k : ℕ) → lines f k ≡ from f 0 k
unfolding lines
lines_from f k = let e : k ≡ 0 + k = omega arith in ap (lines f) e ∙ lines_then f k 0

pub from_more : (f : ℕ → List ℕ) (p k : ℕ) → from f p (suc k) ≡ f p ++ from f (p + 1) k
unfolding from
from_more f p k = refl

pub from_none : (f : ℕ → List ℕ) (p : ℕ) → from f p zero ≡ []
unfolding from
from_none f p = refl
