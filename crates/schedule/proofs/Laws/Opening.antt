-- The whole run along its code: a good header gives a group in order and whole events. Assumes nothing.
use mathlib.Core.Path.{◌≡◌, sym, ap, ap₂, subst, ◌∙◌}
use mathlib.Core.List.{List}
use Prim.Native.Nat.{ℕ, ◌*◌, ◌≤◌, ◌<◌}
use native.Mathlib.Omega.{arith}
use lib.ListN.{length, take}
use borrow.Author.Tests.{lt-ltb, le-ltb}
use Rattle.std.specs.Prelude.{Ok, Err}
use Rattle.answers.specs.declared.Refusal.{Refusal}
use Rattle.answers.specs.declared.Refusal.TheVariants.{FewPlaces}
use Rattle.answers.specs.Answers.{number}
use Rattle.tree.specs.Tree.{flat}
use Rattle.tree.specs.Forms.{tree_of, flat_form}
use Rattle.tree.proofs.Laws.Forms.{flat_form_lem}
use Rattle.calls.specs.Calls.{misshapen}
use Rattle.calls.proofs.Laws.Shapes.{flat_shapely, shape_right}
use Rattle.state.specs.declared.State.{State}
use Rattle.state.specs.States.{own_tree}
use Rattle.state.specs.Starting.{fresh_state, empty_state}
use Rattle.state.proofs.Laws.Starting.{not_accepted, fresh_form, fresh_span}
use Rattle.order.specs.Between.{InOrder}
use Rattle.order.proofs.Laws.Fresh.{fresh_in_order}
use Rattle.files.specs.declared.Header.{Header}
use Rattle.files.specs.Files.{longest, event_at, header}
use Rattle.files.proofs.Laws.Opening.{good_opened, long_bad, long-start}
use Rattle.playing.specs.Playing.{Run, event_in, played, spelt}
use Rattle.playing.proofs.Laws.Playing.{played-answers, played-spelt}
use Rattle.schedule.specs.Runs.{told, refused_run, opened, run}

run_alike : (x y : Run) → x.answer ≡ y.answer → x.state ≡ y.state → x.answers ≡ y.answers → x ≡ y
run_alike x y e f g =
    ap {B = Run} (λ (n : ℕ). record { answer = n; state = x.state; answers = x.answers }) e
    ∙ ap₂ {C = Run} (λ (s : State) (v : List ℕ). record { answer = y.answer; state = s; answers = v }) f g

-- what the three parts of a run on a lent state tell
pub accepted_on : (file out : List ℕ) (s : State) (v : List ℕ) → 0 ≡ (run file out).answer → s ≡ (run file out).state → v ≡ (run file out).answers → told (Ok s) v ≡ run file out
accepted_on file out s v e f g = run_alike (told (Ok s) v) (run file out) e f g

pub refused_on : (file out : List ℕ) (r : Refusal) (s : State) (v : List ℕ) → number r ≡ (run file out).answer → s ≡ (run file out).state → v ≡ (run file out).answers → told (Err (record { refusal = r; state = s })) v ≡ run file out
refused_on file out r s v e f g = run_alike (told (Err (record { refusal = r; state = s })) v) (run file out) e f g

-- ---- what a run answers, by its file's header

pub run-refused : (file out : List ℕ) (e : Refusal) → header file ≡ Err e → run file out ≡ refused_run (number e) out
unfolding run opened
run-refused file out e q = rw q

pub told-refused : (file out : List ℕ) (e : Refusal) (s : State) → Err e ≡ header file → s ≡ empty_state → told (Err (record { refusal = e; state = s })) out ≡ run file out
unfolding refused_run
told-refused file out e s q g = ap (λ (x : State). told (Err (record { refusal = e; state = x })) out) g ∙ sym (run-refused file out e (sym q))

module _ (file out : List ℕ) (h : Header) (good : header file ≡ Ok h) where
  pub run_no_room : length out < 3 * h.events → run file out ≡ refused_run 25 out
  unfolding run opened
  run_no_room l = rw (good, lt-ltb (length out) (3 * h.events) l)

  pub told_no_room : (s : State) → length out < 3 * h.events → s ≡ empty_state → told (Err (record { refusal = FewPlaces; state = s })) out ≡ run file out
  unfolding refused_run
  told_no_room s l g = ap (λ (x : State). told (Err (record { refusal = FewPlaces; state = x })) out) g ∙ sym (run_no_room l)

  opened_played : 3 * h.events ≤ length out → run file out ≡ played flat (event_at file) h.events 0 (fresh_state flat h.n flat_form 1) out
  unfolding run opened
  opened_played l = rw (good, le-ltb (length out) (3 * h.events) l)

  -- It begins in the flat form with box size 1, which is right,
  pub flat_shape : misshapen h.n flat_form 1 ≡ 0
  flat_shape = shape_right h.n flat_form 1 (flat_shapely h.n (good_opened file h good).size)

  module _ (s : State) (g : s ≡ fresh_state (tree_of flat_form 1) h.n flat_form 1) where
    fresh_is : s ≡ fresh_state flat h.n flat_form 1
    fresh_is = g ∙ ap (λ (anc : ℕ → ℕ). fresh_state anc h.n flat_form 1) (flat_form_lem 1)

    own_flat : own_tree s ≡ flat
    own_flat = ap own_tree fresh_is ∙ ap₂ tree_of (fresh_form flat h.n flat_form 1) (fresh_span flat h.n flat_form 1) ∙ flat_form_lem 1

    -- its group is in order,
    pub opened_in_order : InOrder (own_tree s) s
    opened_in_order = subst (λ (anc : ℕ → ℕ). InOrder anc s) (sym own_flat) (subst (InOrder flat) (sym fresh_is) (fresh_in_order flat h.n flat_form 1 (flat_shapely h.n (good_opened file h good).size)))

    -- and what is played on it, of the events that are spelt out, is the run.
    pub told_accepted : (spelled v : List ℕ) (x : State) → 3 * h.events ≤ length out → spelled ≡ spelt (event_at file) h.events out
        → x ≡ (played (own_tree s) (event_in spelled) h.events 0 s spelled).state → v ≡ (played (own_tree s) (event_in spelled) h.events 0 s spelled).answers → told (Ok x) v ≡ run file out
    told_accepted spelled v x l e f g =
        let p : played (own_tree s) (event_in spelled) h.events 0 s spelled ≡ run file out =
        ap (λ (anc : ℕ → ℕ). played anc (event_in spelled) h.events 0 s spelled) own_flat ∙ ap (λ (y : List ℕ). played flat (event_in y) h.events 0 s y) e
        ∙ played-spelt flat (event_at file) h.events s out l ∙ ap (λ (y : State). played flat (event_at file) h.events 0 y out) fresh_is ∙ sym (opened_played l) in
        let z = played-answers flat (event_at file) h.events 0 (fresh_state flat h.n flat_form 1) out in
        run_alike (told (Ok x) v) (run file out) (sym (ap (λ (y : Run). y.answer) (opened_played l) ∙ z)) (f ∙ ap (λ (y : Run). y.state) p) (g ∙ ap (λ (y : Run). y.answers) p)

-- ---- a file that is too long

-- It is refused,
pub long-refused : (file out : List ℕ) → longest < length file → (run file out).answer ≡ 0 → ⊥
unfolding refused_run
long-refused file out l z = let b = long_bad file l in not_accepted b.0 (sym (ap (λ (x : Run). x.answer) (run-refused file out b.0 b.1)) ∙ z)

-- and alike whatever follows the bytes that show it.
pub long_alike : (file out : List ℕ) (n : ℕ) → longest < n → n ≤ length file → run (take n file) out ≡ run file out
long_alike file out n l m =
    let b = long_bad file (omega arith) in
    run-refused (take n file) out b.0 (long-start file n l m ∙ b.1) ∙ sym (run-refused file out b.0 b.1)
