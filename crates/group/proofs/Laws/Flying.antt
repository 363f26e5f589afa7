-- The messages in flight after a plan is carried out: what stayed, what left, what joined. Assumes nothing.
use mathlib.Core.Path.{◌≡◌, refl, sym, subst}
use mathlib.Core.Bool.{Bool, true, false, cond}
use mathlib.Core.List.{List, ◌++◌}
use mathlib.Core.Logic.{◌⊎◌, inl, inr, ⊎_elim}
use Prim.Native.Nat.{ℕ, ◌<◌}
use lib.ListN.{get_or}
use Rattle.sets.specs.Sets.{has}
use Rattle.rank.specs.declared.Send.{Send}
use Rattle.rank.specs.declared.Message.{Message}
use Rattle.rank.specs.Sends.{letters}
use Rattle.rank.specs.declared.Triple.{Triple}
use Rattle.rank.proofs.Turn.{Says}
use Rattle.rank.proofs.Speech.{SaysTriple}
use Rattle.net.specs.Net.{zero_message, padded, without}
use Rattle.net.proofs.Laws.Net.{padded_in}
use Rattle.net.proofs.Laws.Among.{Among, among_left, among_right, among_cases, without_among, among_without, letters_among, among_letters, Named, Bearing}
use Rattle.state.specs.declared.State.{State}
use Rattle.state.specs.States.{flying}
use Rattle.plans.specs.Plans.{Planned}
use Rattle.group.specs.Events.{posted, applied}
use Rattle.group.proofs.Scenes.{Flies, CarriesIn, scene}

-- ---- the list after a plan

module _ (k b x : ℕ) (w : Triple) where
  letters_said : (me : ℕ) (f : Send) → Among (Bearing k b x w) (letters me f) → (b ≡ me) × (f.kind ≡ k) × (f.triple ≡ w) × (has f.to x ≡ true)
  letters_said me f m = go (letters_among (Bearing k b x w) me f m)
    where
      go : (q : ℕ) × (has f.to q ≡ true) × (((f.kind ≡ k) × (me ≡ b) × (q ≡ x)) × (f.triple ≡ w)) → (b ≡ me) × (f.kind ≡ k) × (f.triple ≡ w) × (has f.to x ≡ true)
      go (q, t, e) = (sym e.0.1, e.0.0, e.1, subst (λ (y : ℕ). has f.to y ≡ true) e.0.2 t)

  -- what is left is of before, and what joined is one of the sends
  pub posted_was : (l : List Message) (place me : ℕ) (p : Planned) → Among (Bearing k b x w) (posted l place me p) → Among (Bearing k b x w) l ⊎ ((b ≡ me) × SaysTriple p.acted.first p.acted.second k w x)
  unfolding posted
  posted_was l place me p m = ⊎_elim early (λ (t : Among (Bearing k b x w) (letters me p.acted.second)). let u = letters_said me p.acted.second t in inr (u.0, inr (u.1, u.2, u.3))) (among_cases (Bearing k b x w) (cond p.leaves (without place l) l ++ letters me p.acted.first) (letters me p.acted.second) m)
    where
      rest : (t : Bool) → Among (Bearing k b x w) (cond t (without place l) l) → Among (Bearing k b x w) l
      rest true n = without_among (Bearing k b x w) place l n
      rest false n = n

      early : Among (Bearing k b x w) (cond p.leaves (without place l) l ++ letters me p.acted.first) → Among (Bearing k b x w) l ⊎ ((b ≡ me) × SaysTriple p.acted.first p.acted.second k w x)
      early n =
          ⊎_elim (λ (t : Among (Bearing k b x w) (cond p.leaves (without place l) l)). inl (rest p.leaves t)) (λ (t : Among (Bearing k b x w) (letters me p.acted.first)). let u = letters_said me p.acted.first t in inr (u.0, inl (u.1, u.2, u.3)))
          (among_cases (Bearing k b x w) (cond p.leaves (without place l) l) (letters me p.acted.first) n)

module _ (k b x : ℕ) where
  -- only the message that leaves is gone
  pub posted_stays : (l : List Message) (place me : ℕ) (p : Planned) → Among (Named k b x) l → Among (Named k b x) (posted l place me p) ⊎ ((p.leaves ≡ true) × Named k b x (get_or l place zero_message))
  unfolding posted
  posted_stays l place me p m = ⊎_elim (λ (n : Among (Named k b x) (cond p.leaves (without place l) l)). inl (among_left (Named k b x) (cond p.leaves (without place l) l ++ letters me p.acted.first) (letters me p.acted.second) (among_left (Named k b x) (cond p.leaves (without place l) l) (letters me p.acted.first) n))) (λ (n : (p.leaves ≡ true) × Named k b x (get_or l place zero_message)). inr n) (rest p.leaves)
    where
      rest : (t : Bool) → Among (Named k b x) (cond t (without place l) l) ⊎ ((t ≡ true) × Named k b x (get_or l place zero_message))
      rest true = ⊎_elim (λ (n : Among (Named k b x) (without place l)). inl n) (λ (n : Named k b x (get_or l place zero_message)). inr (refl, n)) (among_without (Named k b x) place l m)
      rest false = inl m

-- and all that is sent joins
pub posted_joins : (l : List Message) (place me : ℕ) (p : Planned) (k x : ℕ) → x < 64 → Says p.acted.first p.acted.second k x → Among (Named k me x) (posted l place me p)
unfolding posted
posted_joins l place me p k x h (inl t) =
    among_left (Named k me x) (cond p.leaves (without place l) l ++ letters me p.acted.first) (letters me p.acted.second)
    (among_right (Named k me x) (cond p.leaves (without place l) l) (letters me p.acted.first) (among_letters (Named k me x) me p.acted.first x h t.1 (t.0, refl, refl)))
posted_joins l place me p k x h (inr t) = among_right (Named k me x) (cond p.leaves (without place l) l ++ letters me p.acted.first) (letters me p.acted.second) (among_letters (Named k me x) me p.acted.second x h t.1 (t.0, refl, refl))

-- ---- the messages in flight after a plan

module _ (s : State) (place me : ℕ) (p : Planned) (k b x : ℕ) where
  pub applied_flies : Among (Named k b x) (posted (flying s) place me p) → Flies (scene (applied s place me p)) k b x
  unfolding applied
  applied_flies m =
      let t : Named k b x (get_or (padded (posted (flying s) place me p)) m.place zero_message) = subst (Named k b x) (sym (padded_in (posted (flying s) place me p) m.place m.inside)) m.so in
      (_, record { place = m.place; listed = m.inside; kind_is = t.0; from_is = t.1; to_is = t.2; triple_is = refl })

  pub carries_applied : (w : Triple) → CarriesIn (applied s place me p) k b x w → Among (Bearing k b x w) (posted (flying s) place me p)
  unfolding applied
  carries_applied w m =
      record { place = m.place; inside = m.listed; so = subst (Bearing k b x w) (padded_in (posted (flying s) place me p) m.place m.listed) ((m.kind_is, m.from_is, m.to_is), m.triple_is) }
