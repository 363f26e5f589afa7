-- Writing onto a page, and into a lent buffer: one piece of text after the other is their concatenation, and the buffer keeps its length.
-- Assumes nothing.
use mathlib.Core.Path.{◌≡◌, refl, sym, ap, ◌∙◌}
use mathlib.Core.List.{List, [], ◌∷◌, ◌++◌, append-nil, append_assoc}
use Prim.Native.Nat.{ℕ, ◌+◌, ◌-◌, ◌≤◌}
use native.Mathlib.Numerals.{add-one}
use native.Mathlib.Omega.{arith}
use lib.ListN.{length, take, drop, set, length-set, length-append, take-append-drop}
use Rattle.std.proofs.Common.{drop-set-lt, drop-drop}
use lib.Seq.{take-suc-set}
use denote.MutBor.{MutBor}
use Rattle.sets.proofs.Laws.Alike.{alike}
use Rattle.text.specs.Text.{pasted, Wrote}
use Rattle.text.specs.Pages.{Puts, HasRoom}
use Rattle.text.specs.declared.Page.{Page}

length-pasted : (text : List ℕ) (at : ℕ) (l : List ℕ) → length (pasted text at l) ≡ length text
unfolding pasted
length-pasted text at [] = refl
length-pasted text at (b ∷ l) = length-pasted (set text at b) (at + 1) l ∙ length-set text at b

pasted-then : (text : List ℕ) (at : ℕ) (l m : List ℕ) → pasted text at (l ++ m) ≡ pasted (pasted text at l) (at + length l) m
unfolding pasted
pasted-then text at [] m = ap (λ (k : ℕ). pasted text k m) (let e : at ≡ at + 0 = omega arith in e)
pasted-then text at (b ∷ l) m =
    pasted-then (set text at b) (at + 1) l m
    ∙ ap (λ (k : ℕ). pasted (pasted (set text at b) (at + 1) l) k m) (let e : at + 1 + length l ≡ at + length (b ∷ l) = omega arith in e)

-- ---- on a page

now_is : {p : Page} {l : List ℕ} {q : Page} → Puts p l q → q.text.now ≡ pasted p.text.now p.at l
now_is h = ap (λ (t : MutBor (List ℕ)). t.now) h.text_is

pub puts_kept : {p : Page} {l : List ℕ} {q : Page} → Puts p l q → length q.text.now ≡ length p.text.now
puts_kept {p} {l} h = ap length (now_is h) ∙ length-pasted p.text.now p.at l

pub puts_nothing : (p : Page) → Puts p [] p
unfolding pasted
puts_nothing p = record { text_is = refl; at_is = omega arith }

-- one piece after the other
pub puts_then : {p : Page} {l : List ℕ} {q : Page} {m : List ℕ} {r : Page} → Puts p l q → Puts q m r → Puts p (l ++ m) r
puts_then {p} {l} {q} {m} h k = record {
  text_is =
      k.text_is ∙ rw (h.text_is, h.at_is) (ap (λ (x : List ℕ). record p.text { now = x }) (sym (pasted-then p.text.now p.at l m)));
  at_is = omega (arith, h.at_is, k.at_is, length-append l m);
}

-- what room is left after a piece of at most k bytes
pub room_after : {p : Page} {l : List ℕ} {q : Page} (k m : ℕ) → Puts p l q → length l ≤ k → HasRoom p (k + m) → HasRoom q m
room_after k m h short room = omega (arith, h.at_is, puts_kept h)

-- two that put the same are alike
pub puts_alike : {p : Page} {l : List ℕ} {q r : Page} → Puts p l q → Puts p l r → q ≡ r
puts_alike {p} {l} {q} {r} h k =
    ap (λ (t : MutBor (List ℕ)). record q { text = t }) (alike h.text_is k.text_is)
    ∙ ap (λ (a : ℕ). record r { at = a }) (alike h.at_is k.at_is)

-- letters that are copied in one piece
pub pasted_whole : (text : List ℕ) (at : ℕ) (l : List ℕ) → at + length l ≤ length text → pasted text at l ≡ take at text ++ (l ++ drop (at + length l) text)
unfolding pasted
pasted_whole text at [] r = let e : at + 0 ≡ at = omega arith in rw e (sym (take-append-drop at text))
pasted_whole text at (b ∷ l) r =
    let e : at + length (b ∷ l) ≡ at + 1 + length l = omega arith in
    pasted_whole (set text at b) (at + 1) l (omega (arith, length-set text at b))
    ∙ rw (e, drop-set-lt (at + 1 + length l) text at b (omega arith), add-one at, take-suc-set text at b (omega arith), append_assoc)

pub letters_copied : (text : List ℕ) (at : ℕ) (l new : List ℕ) → at + length l ≤ length text → new ≡ l → take at text ++ (new ++ drop (at + length l - at) (drop at text)) ≡ pasted text at l
letters_copied text at l new r e =
    let z : at + (at + length l - at) ≡ at + length l = omega arith in
    rw (e, drop-drop (at + length l - at) at text, z) (sym (pasted_whole text at l r))

-- ---- into a lent buffer, which a page has from its start to its end

pub name_kept : {p : Page} {l : List ℕ} {q : Page} → Puts p l q → q.text.ghost_name ≡ p.text.ghost_name
name_kept h = ap (λ (t : MutBor (List ℕ)). t.ghost_name) h.text_is

-- what stands in the buffer at the page's end
pub page_ends : {p : Page} {l : List ℕ} {q : Page} {t : List ℕ} → Puts p l q → t ≡ q.text.now → Wrote p.text.now p.at l t q.at
page_ends h e = record { text_is = e ∙ now_is h; next_is = h.at_is }

pub wrote_kept : {text : List ℕ} {at : ℕ} {l t : List ℕ} {a : ℕ} → Wrote text at l t a → length t ≡ length text
wrote_kept {text} {at} {l} p = ap length p.text_is ∙ length-pasted text at l

-- one piece after the other
pub wrote_then : {text : List ℕ} {at : ℕ} {l t : List ℕ} {a : ℕ} {m u : List ℕ} {b : ℕ} → Wrote text at l t a → Wrote t a m u b → Wrote text at (l ++ m) u b
wrote_then {text} {at} {l} {t} {a} {m} w v = record {
  text_is = v.text_is ∙ rw (w.text_is, w.next_is) (sym (pasted-then text at l m));
  next_is = omega (arith, w.next_is, v.next_is, length-append l m);
}

-- two that wrote the same wrote alike
pub wrote_alike : {text : List ℕ} {at : ℕ} {l t u : List ℕ} {a b : ℕ} → Wrote text at l t a → Wrote text at l u b → (a ≡ b) × (t ≡ u)
wrote_alike p q = (alike p.next_is q.next_is, alike p.text_is q.text_is)

-- what was written can be taken out again
pasted_taken : (text : List ℕ) (at : ℕ) (l : List ℕ) → at + length l ≤ length text → take (at + length l) (pasted text at l) ≡ take at text ++ l
unfolding pasted
pasted_taken text at [] r = let e : at + 0 ≡ at = omega arith in ap (λ (k : ℕ). take k text) e ∙ sym (append-nil (take at text))
pasted_taken text at (b ∷ l) r =
    let e : at + length (b ∷ l) ≡ at + 1 + length l = omega arith in
    ap (λ (k : ℕ). take k (pasted (set text at b) (at + 1) l)) e
    ∙ (pasted_taken (set text at b) (at + 1) l (omega (arith, length-set text at b))
    ∙ rw (add-one at, take-suc-set text at b (omega arith), append_assoc))

pub wrote_taken : {text l t : List ℕ} {a : ℕ} → Wrote text 0 l t a → length l ≤ length text → take a t ≡ l
wrote_taken {text} {l} {t} {a} w r = rw (w.text_is, w.next_is) (pasted_taken text 0 l (omega arith))
