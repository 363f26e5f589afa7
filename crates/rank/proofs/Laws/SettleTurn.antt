-- Settle makes a turn of a turn: a rule's own part, with its first send alone, and what settle adds to it. Assumes nothing.
use mathlib.Core.Path.{◌≡◌, refl, sym, ap, ◌∙◌}
use mathlib.Core.Bool.{true, false}
use mathlib.Core.Logic.{◌⊎◌, inl, inr, ⊎_elim}
use Prim.Native.Nat.{ℕ, ◌≤◌}
use native.Mathlib.Omega.{arith}
use borrow.Author.Tests.{eq-eqb}
use Rattle.sets.specs.Sets.{none, has, only, union, minus}
use Rattle.sets.proofs.Laws.Bools.{clash, or_r}
use Rattle.sets.proofs.Laws.Members.{has-zero, has-only, has-union, minus_i, minus-not}
use Rattle.tree.specs.declared.Moved.{Moved}
use Rattle.tree.specs.Tree.{parent, children}
use Rattle.tree.proofs.Laws.Parents.{no_parent, no_parent_all}
use Rattle.rank.specs.declared.Rank.{Rank}
use Rattle.rank.specs.declared.Send.{Send}
use Rattle.rank.specs.declared.Said.{Said}
use Rattle.rank.specs.declared.Triple.{Triple}
use Rattle.rank.specs.declared.Acted.{Acted}
use Rattle.rank.specs.Words.{gathering, waiting, decided, up, down, ask}
use Rattle.rank.specs.Triples.{closing}
use Rattle.rank.specs.Records.{becoming, concluding, parent_of, children_of, awaiting}
use Rattle.rank.specs.Sends.{silent, reports, tells, asks}
use Rattle.rank.specs.Rules.{saying, deciding, settled, settling}
use Rattle.rank.proofs.Turn.{Says, NoParent, Leads, Polls, Complete, Turn}
use Rattle.rank.proofs.Laws.Cases.{settled_by}

-- the whole of a rule is a turn
abbrev pub ActedTurn : (ℕ → ℕ) → ℕ → ℕ → ℕ → ℕ → Rank → Acted → Type 0
ActedTurn anc n me kind q r a = Turn anc n me kind q r a.rank a.first a.second

-- where the second send is silent, the first says it
pub first_says : (f : Send) (kind x : ℕ) → Says f silent kind x → (f.kind ≡ kind) × (has f.to x ≡ true)
unfolding silent
first_says f kind x s = ⊎_elim (λ (h : (f.kind ≡ kind) × (has f.to x ≡ true)). h) (λ (h : (0 ≡ kind) × (has 0 x ≡ true)). absurd (clash (has 0 x) h.1 (has-zero x))) s

-- and a second send adds to it
more_says : (f g : Send) (kind x : ℕ) → Says f silent kind x → Says f g kind x
more_says f g kind x s = inl (first_says f kind x s)

-- two silent sends say nothing
pub silence : (kind x : ℕ) → Says silent silent kind x → ⊥
unfolding silent
silence kind x s = clash (has 0 x) (first_says silent kind x s).1 (has-zero x)

pub only_self : (p x : ℕ) → x ≡ p → has (only p) x ≡ true
only_self p x e = has-only p x ∙ eq-eqb x p e

-- The message that a rule took, and what its own part does for the sender.
abbrev pub Takes : (ℕ → ℕ) → ℕ → ℕ → ℕ → Rank → Rank → Send → Type 0
Takes anc me kind q r r' f =
    (kind ≡ up → Says f silent down q ⊎ ((r.phase ≡ decided → ⊥) × (has r'.heard q ≡ true) × (has r'.owed q ≡ true)))
    × (kind ≡ down → (r'.phase ≡ gathering → ⊥) × (r'.phase ≡ waiting → ⊥))
    × (kind ≡ ask → Says f silent down q ⊎ ((r.phase ≡ decided → ⊥) × (has r'.owed q ≡ true)))
    × (kind ≡ ask → r'.phase ≡ waiting → parent anc r'.marks me ≡ q → Says f silent up q)

pub takes_none : (anc : ℕ → ℕ) (me q : ℕ) (r r' : Rank) (f : Send) → Takes anc me 0 q r r' f
takes_none anc me q r r' f = (λ e. absurd (omega arith), λ e. absurd (omega arith), λ e. absurd (omega arith), λ e. absurd (omega arith))

-- What the first send's kind says of the phase.
abbrev pub Fits : Rank → Send → Type 0
Fits r f = (f.kind ≡ up → r.phase ≡ waiting) × (f.kind ≡ down → r.phase ≡ decided)

pub silent_fits : (r : Rank) → Fits r silent
unfolding silent
silent_fits r = (λ e. absurd (omega arith), λ e. absurd (omega arith))

pub reports_fits : (r s : Rank) (q : ℕ) → r.phase ≡ waiting → Fits r (reports s q)
unfolding reports
reports_fits r s q p = (λ e. p, λ e. absurd (omega arith))

pub tells_fits : (r : Rank) (x : Triple) (to : ℕ) → r.phase ≡ decided → Fits r (tells x to)
unfolding tells
tells_fits r x to p = (λ e. absurd (omega arith), λ e. p)

pub asks_fits : (r : Rank) (to : ℕ) → Fits r (asks to)
unfolding asks
asks_fits r to = (λ e. absurd (omega arith), λ e. absurd (omega arith))

module _ (anc : ℕ → ℕ) (n me : ℕ) where
  -- a part that keeps the phase: what is left to show of it
  pub stays : (kind q : ℕ) (r r' : Rank) (f : Send) → r'.phase ≡ r.phase
      → ((k : ℕ) → has r.marks k ≡ true → has r'.marks k ≡ true)
      → ((x : ℕ) → has r'.heard x ≡ true → (has r.heard x ≡ true) ⊎ ((kind ≡ up) × (q ≡ x)))
      → ((x : ℕ) → has r.heard x ≡ true → has r'.heard x ≡ true)
      → ((x : ℕ) → has r.owed x ≡ true → has r'.owed x ≡ true)
      → Fits r' f
      → (r.phase ≡ gathering → NoParent anc me r → (c : ℕ) → Leads anc n me r' c → Leads anc n me r c ⊎ Says f silent ask c)
      → (r.phase ≡ waiting → (parent anc r.marks me ≡ parent anc r'.marks me) ⊎ Says f silent up (parent anc r'.marks me))
      → Takes anc me kind q r r' f
      → Turn anc n me kind q r r' f silent
  stays kind q r r' f p marks new heard owed fits gains links takes = record {
    marks_grow = marks;
    heard_new = new;
    heard_stays = λ d x h. inl (heard x h);
    owed_stays = owed;
    was_outside = λ e. sym p ∙ e;
    was_gathering = λ e. inr (inl (sym p ∙ e));
    was_waiting = λ e. inl (sym p ∙ e);
    was_decided = λ e. inl (sym p ∙ e);
    final = λ e. p ∙ e;
    goes_on = λ e z. inr (p ∙ e, gains e z);
    up_waits = λ x s. fits.0 (first_says f up x s).0;
    down-decided = λ x s. fits.1 (first_says f down x s).0;
    reports_to = λ e. ⊎_elim (λ (h : parent anc r.marks me ≡ parent anc r'.marks me). inl (sym p ∙ e, h)) (λ (h : Says f silent up (parent anc r'.marks me)). inr h) (links (sym p ∙ e));
    tells_owed = λ d e. absurd (d (sym p ∙ e));
    takes-up = takes.0;
    takes-down = takes.1;
    takes-ask = takes.2;
    asked-reports = takes.3;
  }

  -- ---- settle

  -- who awaits nobody has heard every child
  pub complete : (r : Rank) → r.awaited ≡ awaiting anc n me r.marks r.heard → r.awaited ≡ 0 → Complete anc n me r
  unfolding awaiting
  complete r w a c k = minus-not (children anc n r.marks me) r.heard c (ap (λ (s : ℕ). has s c) (sym w ∙ a) ∙ has-zero c) k

  -- whoever is owed and unmarked is told
  pub told : (r : Rank) (x : ℕ) → has r.owed x ≡ true → has r.marks x ≡ false → has (minus (union (children anc n r.marks me) r.owed) r.marks) x ≡ true
  told r x o m = minus_i (union (children anc n r.marks me) r.owed) r.marks x (has-union (children anc n r.marks me) r.owed x ∙ or_r (has (children anc n r.marks me) x) (has r.owed x) o) m

  module _ (kind q : ℕ) (r r' : Rank) (f : Send) (t : Turn anc n me kind q r r' f silent) (w : r'.awaited ≡ awaiting anc n me r'.marks r'.heard) (p : r'.phase ≡ gathering) (a : r'.awaited ≡ 0) where
    -- what was done for the sender stays done
    took_up : (g : Send) → kind ≡ up → Says f g down q ⊎ ((r.phase ≡ decided → ⊥) × (has r'.heard q ≡ true) × (has r'.owed q ≡ true))
    took_up g e = ⊎_elim (λ (s : Says f silent down q). inl (more_says f g down q s)) (λ (h : (r.phase ≡ decided → ⊥) × (has r'.heard q ≡ true) × (has r'.owed q ≡ true)). inr h) (t.takes-up e)

    took_ask : (g : Send) → kind ≡ ask → Says f g down q ⊎ ((r.phase ≡ decided → ⊥) × (has r'.owed q ≡ true))
    took_ask g e = ⊎_elim (λ (s : Says f silent down q). inl (more_says f g down q s)) (λ (h : (r.phase ≡ decided → ⊥) × (has r'.owed q ≡ true)). inr h) (t.takes-ask e)

    first-not-up : (x : ℕ) → f.kind ≡ up → has f.to x ≡ true → ⊥
    first-not-up x e h = let d : r'.phase ≡ waiting = t.up_waits x (inl (e, h)) in omega arith

    first-not-down : (x : ℕ) → f.kind ≡ down → has f.to x ≡ true → ⊥
    first-not-down x e h = let d : r'.phase ≡ decided = t.down-decided x (inl (e, h)) in omega arith

    -- a rank without a parent decides
    decides_turn : parent anc r'.marks me ≡ none → Turn anc n me kind q r (deciding anc n me (closing r'.marks r'.triple) r').rank f (deciding anc n me (closing r'.marks r'.triple) r').send
    unfolding deciding saying concluding children_of tells
    decides_turn z = record {
      marks_grow = t.marks_grow;
      heard_new = t.heard_new;
      heard_stays = λ d. absurd (d refl);
      owed_stays = t.owed_stays;
      was_outside = λ e. absurd (omega arith);
      was_gathering = λ e. absurd (omega arith);
      was_waiting = λ e. absurd (omega arith);
      was_decided = λ e. inr (inr (z, complete r' w a));
      final = λ e. refl;
      goes_on = λ e y. inl refl;
      up_waits = λ x s. absurd (⊎_elim (λ (h : (f.kind ≡ up) × (has f.to x ≡ true)). first-not-up x h.0 h.1) (λ (h : (down ≡ up) × (has (minus (union (children anc n r'.marks me) r'.owed) r'.marks) x ≡ true)). let d : down ≡ up = h.0 in omega arith) s);
      down-decided = λ x s. refl;
      reports_to = λ e. absurd (omega arith);
      tells_owed = λ d e x o m. inr (refl, told r' x o m);
      takes-up = took_up (deciding anc n me (closing r'.marks r'.triple) r').send;
      takes-down = λ e. absurd ((t.takes-down e).0 p);
      takes-ask = took_ask (deciding anc n me (closing r'.marks r'.triple) r').send;
      asked-reports = λ e x. absurd (omega arith);
    }

    -- any other reports to its parent
    reports_turn : me ≤ none → (parent anc r'.marks me ≡ none → ⊥) → Turn anc n me kind q r (becoming waiting r') f (reports r' (parent anc r'.marks me))
    unfolding becoming reports
    reports_turn s z = record {
      marks_grow = t.marks_grow;
      heard_new = t.heard_new;
      heard_stays = λ d x h. ⊎_elim (λ (y : has r'.heard x ≡ true). inl y) (λ (y : Polls anc n me r' f silent). absurd (z y.root)) (t.heard_stays (λ e. omega arith) x h);
      owed_stays = t.owed_stays;
      was_outside = λ e. absurd (omega arith);
      was_gathering = λ e. absurd (omega arith);
      was_waiting = λ e. inr (complete r' w a);
      was_decided = λ e. absurd (omega arith);
      final = λ e. let d : r'.phase ≡ decided = t.final e in absurd (omega arith);
      goes_on = λ e y. absurd (z (no_parent anc r'.marks me (λ k b. t.marks_grow k (no_parent_all anc r.marks me s y k b))));
      up_waits = λ x y. refl;
      down-decided = λ x y. absurd (⊎_elim (λ (h : (f.kind ≡ down) × (has f.to x ≡ true)). first-not-down x h.0 h.1) (λ (h : (up ≡ down) × (has (only (parent anc r'.marks me)) x ≡ true)). let d : up ≡ down = h.0 in omega arith) y);
      reports_to = λ e. inr (inr (refl, only_self (parent anc r'.marks me) (parent anc r'.marks me) refl));
      tells_owed = λ d e. absurd (omega arith);
      takes-up = took_up (reports r' (parent anc r'.marks me));
      takes-down = λ e. absurd ((t.takes-down e).0 p);
      takes-ask = took_ask (reports r' (parent anc r'.marks me));
      asked-reports = λ e x y. inr (refl, only_self (parent anc r'.marks me) q (sym y));
    }

  -- a rule's own part, for settle
  abbrev pub Part : ℕ → ℕ → Rank → Said → Type 0
  Part kind q r s = Turn anc n me kind q r s.rank s.send silent × (s.rank.awaited ≡ awaiting anc n me s.rank.marks s.rank.heard)

  settled_turn : (kind q : ℕ) (r : Rank) (s : Said) → me ≤ none → Part kind q r s → Turn anc n me kind q r (settled anc n me s.rank).rank s.send (settled anc n me s.rank).send
  unfolding saying parent_of
  settled_turn kind q r s m t =
      settled_by anc n me (λ (x : Said). Turn anc n me kind q r x.rank s.send x.send) s.rank
      (λ h. t.0)
      (λ p a e. decides_turn kind q r s.rank s.send t.0 t.1 p a e)
      (λ p a e. reports_turn kind q r s.rank s.send t.0 t.1 p a m e)

  pub settling_turn : (kind q : ℕ) (r : Rank) (s : Said) (m : Moved) → me ≤ none → Part kind q r s → ActedTurn anc n me kind q r (settling anc n me s m)
  unfolding settling
  settling_turn kind q r s m b t = settled_turn kind q r s b t
