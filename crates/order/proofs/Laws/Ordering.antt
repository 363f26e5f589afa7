-- The tests of "in order" and the facts that they stand for, both ways. Assumes nothing.
use mathlib.Core.Path.{◌≡◌, sym, ap, subst, ◌∙◌}
use mathlib.Core.Bool.{Bool, true, false, not, ◌&&◌, ◌||◌}
use mathlib.Core.List.{List, [], ◌∷◌}
use mathlib.Core.Logic.{◌⊎◌, inl, inr, ⊎_elim}
use Prim.Native.Nat.{ℕ, ◌+◌, ◌≤◌, ◌<◌}
use native.Mathlib.Omega.{arith}
use lib.Dec.{eqb, ltb, leb}
use lib.ListN.{length, get_or, take, replicate}
use lib.Seq.{ext_get_or, get_or-take, length-take-le}
use borrow.Author.Tests.{eqb-true, eqb-false, eq-eqb, ne_eqb, ltb-true, leb-true, le-leb, lt-ltb, le-ltb, not-true}
use Rattle.sets.specs.Sets.{none, minus, below, every, all}
use Rattle.sets.proofs.Laws.Bools.{and_assoc, and_true, eq_or_ne, and_i, and_l, and_r, not_i, fails, lt-or-le, cond_true, cond_false, all_head, all_tail, all_nil, all-step, all_cons, means, meant}
use Rattle.sets.proofs.Laws.Members.{has-below-lt}
use Rattle.sets.proofs.Laws.Searches.{every-at, every_i, every-not}
use Rattle.tree.specs.Calls.{same}
use Rattle.calls.specs.Calls.{misshapen}
use Rattle.tree.proofs.Laws.Rows.{same-eq, same_refl}
use Rattle.calls.proofs.Laws.Shapes.{shapely, shape_right}
use Rattle.rank.specs.declared.Rank.{Rank}
use Rattle.rank.specs.declared.Message.{Message}
use Rattle.rank.specs.declared.Triple.{Triple}
use Rattle.rank.specs.Words.{up, ask}
use Rattle.rank.proofs.Facts.{MemberInOrder}
use Rattle.net.specs.Net.{in_flight, zero_message, padded}
use Rattle.net.proofs.Facts.{MessageInOrder}
use Rattle.net.proofs.Laws.Net.{padded-long, padded_in, padded-past}
use Rattle.state.specs.declared.State.{State}
use Rattle.state.specs.States.{zero_rank, rank_at, row_at, place_at, own_tree, with_box}
use Rattle.order.proofs.Laws.Ranks.{within_o, within_i, below_o, below_i, triple_o, triple_i, zero_o, zero_i, rank_in_order_facts, facts_rank_in_order}
use Rattle.order.specs.Order.{rank_in_order, is_within, triple_within, is_zero, member_in_order, zero_record, stranger_in_order, seat_in_order, seat_in_order_at, message_in_order, zero_place, place_in_order, place_in_order_at, in_order}
use Rattle.order.specs.Between.{InOrder}
use Rattle.order.proofs.Facts.{InOrderFacts}

-- ---- one rank, one record past the group

member_o : (anc : ℕ → ℕ) (n dead i : ℕ) (r : Rank) (row : List ℕ) → member_in_order anc n dead i r row ≡ true → MemberInOrder anc n dead i r row
unfolding member_in_order
member_o anc n dead i r row t =
    let f = rank_in_order_facts anc n i r row (and_l (rank_in_order anc n i r row) (is_within r.marks dead) t) in
    record { in_order = f.0; table = f.1; marks_dead = within_o r.marks dead (and_r (rank_in_order anc n i r row) (is_within r.marks dead) t) }

member_i : (anc : ℕ → ℕ) (n dead i : ℕ) (r : Rank) (row : List ℕ) → n ≤ 64 → i < n → MemberInOrder anc n dead i r row → member_in_order anc n dead i r row ≡ true
unfolding member_in_order
member_i anc n dead i r row a b s =
    and_i (rank_in_order anc n i r row) (is_within r.marks dead) (facts_rank_in_order anc n i a b r row s.in_order s.table) (within_i r.marks dead s.marks_dead)

zero_record_o : (r : Rank) → zero_record r ≡ true → r ≡ zero_rank
unfolding zero_record
zero_record_o r t =
    let t1 = all_tail _ _ t in
    let t2 = all_tail _ _ t1 in
    let t3 = all_tail _ _ t2 in
    let t4 = all_tail _ _ t3 in
    let t5 = all_tail _ _ t4 in
    let t6 = all_tail _ _ t5 in
    let t7 = all_tail _ _ t6 in
    λ i. record {
      phase = eqb-true r.phase 0 (all_head _ _ t) i;
      marks = eqb-true r.marks 0 (all_head _ _ t1) i;
      acknowledged = eqb-true r.acknowledged 0 (all_head _ _ t2) i;
      heard = eqb-true r.heard 0 (all_head _ _ t3) i;
      awaited = eqb-true r.awaited 0 (all_head _ _ t4) i;
      owed = eqb-true r.owed 0 (all_head _ _ t5) i;
      triple = zero_o r.triple (all_head _ _ t6) i;
      result = zero_o r.result (all_head _ _ t7) i;
    }

zero_record_i : (r : Rank) → r ≡ zero_rank → zero_record r ≡ true
unfolding zero_record is_zero
zero_record_i r e = rw e (simp (all-step, all_nil))

stranger_o : (r : Rank) (row : List ℕ) → stranger_in_order r row ≡ true → (r ≡ zero_rank) × (row ≡ replicate 64 none)
unfolding stranger_in_order
stranger_o r row t = (zero_record_o r (and_l (zero_record r) (same row (replicate 64 none)) t), same-eq row (replicate 64 none) (and_r (zero_record r) (same row (replicate 64 none)) t))

stranger_i : (r : Rank) (row : List ℕ) → r ≡ zero_rank → row ≡ replicate 64 none → stranger_in_order r row ≡ true
unfolding stranger_in_order
stranger_i r row e f = and_i (zero_record r) (same row (replicate 64 none)) (zero_record_i r e) (subst (λ (t : List ℕ). same row t ≡ true) f (same_refl row))

-- ---- one message, one place after the last

message_o : (n dead : ℕ) (m : Message) → message_in_order n dead m ≡ true → MessageInOrder n dead m
unfolding message_in_order
message_o n dead m t =
    let t1 = all_tail _ _ t in
    let t2 = all_tail _ _ t1 in
    let t3 = all_tail _ _ t2 in
    let t4 = all_tail _ _ t3 in
    let t5 = all_tail _ _ t4 in
    let t6 = all_tail _ _ t5 in
    let t7 = all_tail _ _ t6 in
    record {
      from_in = ltb-true m.from n (all_head _ _ t);
      to_in = ltb-true m.to n (all_head _ _ t1);
      differ = eqb-false m.from m.to (not-true (eqb m.from m.to) (all_head _ _ t2));
      kind-low = leb-true up m.kind (all_head _ _ t3);
      kind-high = leb-true m.kind ask (all_head _ _ t4);
      triple_in = triple_o n m.triple (all_head _ _ t5);
      ask_empty = λ e. zero_o m.triple (means (eqb m.kind ask) (is_zero m.triple) (all_head _ _ t6) (eq-eqb m.kind ask e));
      ask_dead = λ e k l. within_o (below m.from) dead (means (eqb m.kind ask) (is_within (below m.from) dead) (all_head _ _ t7) (eq-eqb m.kind ask e)) k (has-below-lt m.from k l);
    }

message_i : (n dead : ℕ) (m : Message) → MessageInOrder n dead m → message_in_order n dead m ≡ true
unfolding message_in_order
message_i n dead m l =
    all_cons _ _ (lt-ltb m.from n l.from_in)
    (all_cons _ _ (lt-ltb m.to n l.to_in)
    (all_cons _ _ (not_i (eqb m.from m.to) (ne_eqb m.from m.to l.differ))
    (all_cons _ _ (le-leb up m.kind l.kind-low)
    (all_cons _ _ (le-leb m.kind ask l.kind-high)
    (all_cons _ _ (triple_i n m.triple l.triple_in)
    (all_cons _ _ (meant (eqb m.kind ask) (is_zero m.triple) (λ e. zero_i m.triple (l.ask_empty (eqb-true m.kind ask e))))
    (all_cons _ _ (meant (eqb m.kind ask) (is_within (below m.from) dead) (λ e. within_i (below m.from) dead (λ k t. l.ask_dead (eqb-true m.kind ask e) k (below_o (below m.from) m.from k (within_i (below m.from) (below m.from) (λ j u. u)) t)))) all_nil)))))))

vacant_o : (m : Message) → zero_place m ≡ true → m ≡ zero_message
unfolding zero_place
vacant_o m t =
    let t1 = all_tail _ _ t in
    let t2 = all_tail _ _ t1 in
    let t3 = all_tail _ _ t2 in
    λ i. record { kind = eqb-true m.kind 0 (all_head _ _ t) i; from = eqb-true m.from 0 (all_head _ _ t1) i; to = eqb-true m.to 0 (all_head _ _ t2) i; triple = zero_o m.triple (all_head _ _ t3) i }

vacant_i : (m : Message) → m ≡ zero_message → zero_place m ≡ true
unfolding zero_place is_zero
vacant_i m e = rw e (simp (all-step, all_nil))

-- ---- the whole state

rank-member : (anc : ℕ → ℕ) (s : State) (i : ℕ) → i < s.group.n → seat_in_order_at anc s i ≡ true → member_in_order anc s.group.n s.group.dead i (rank_at s i) (row_at s i) ≡ true
unfolding seat_in_order_at seat_in_order
rank-member anc s i l t = sym (cond_true (ltb i s.group.n) (member_in_order anc s.group.n s.group.dead i (rank_at s i) (row_at s i)) (stranger_in_order (rank_at s i) (row_at s i)) (lt-ltb i s.group.n l)) ∙ t

rank_stranger : (anc : ℕ → ℕ) (s : State) (i : ℕ) → s.group.n ≤ i → seat_in_order_at anc s i ≡ true → stranger_in_order (rank_at s i) (row_at s i) ≡ true
unfolding seat_in_order_at seat_in_order
rank_stranger anc s i l t = sym (cond_false (ltb i s.group.n) (member_in_order anc s.group.n s.group.dead i (rank_at s i) (row_at s i)) (stranger_in_order (rank_at s i) (row_at s i)) (le-ltb i s.group.n l)) ∙ t

place_message : (s : State) (i : ℕ) → i < s.group.count → place_in_order_at s i ≡ true → message_in_order s.group.n s.group.dead (place_at s i) ≡ true
unfolding place_in_order_at place_in_order
place_message s i l t = sym (cond_true (ltb i s.group.count) (message_in_order s.group.n s.group.dead (place_at s i)) (zero_place (place_at s i)) (lt-ltb i s.group.count l)) ∙ t

place_zero : (s : State) (i : ℕ) → s.group.count ≤ i → place_in_order_at s i ≡ true → zero_place (place_at s i) ≡ true
unfolding place_in_order_at place_in_order
place_zero s i l t = sym (cond_false (ltb i s.group.count) (message_in_order s.group.n s.group.dead (place_at s i)) (zero_place (place_at s i)) (le-ltb i s.group.count l)) ∙ t

pub in_order_facts : (anc : ℕ → ℕ) (s : State) → InOrder anc s → InOrderFacts anc s
unfolding in_order
in_order_facts anc s o =
    let n = s.group.n in
    let t = o.tested in
    let t1 = all_tail _ _ t in
    let t2 = all_tail _ _ t1 in
    let t3 = all_tail _ _ t2 in
    let t4 = all_tail _ _ t3 in
    let t5 = all_tail _ _ t4 in
    let right = shapely n s.group.form s.group.span (eqb-true _ 0 (all_head _ _ t)) in
    record {
      shaped = o.shaped;
      shape = right;
      lives = eqb-false (minus (below n) s.group.dead) 0 (not-true (eqb (minus (below n) s.group.dead) 0) (all_head _ _ t1));
      dead_in = λ k h. below_o s.group.dead n k (all_head _ _ t2) h;
      count-le = leb-true s.group.count in_flight (all_head _ _ t3);
      member = λ i l. member_o anc n s.group.dead i (rank_at s i) (row_at s i) (rank-member anc s i l (every-at (seat_in_order_at anc s) 64 i (all_head _ _ t4) (let b : n ≤ 64 = right.small in omega arith)));
      stranger = λ i l b. stranger_o (rank_at s i) (row_at s i) (rank_stranger anc s i l (every-at (seat_in_order_at anc s) 64 i (all_head _ _ t4) b));
      message = λ i l. message_o n s.group.dead (place_at s i) (place_message s i l (every-at (place_in_order_at s) in_flight i (all_head _ _ t5) (let b : s.group.count ≤ in_flight = leb-true s.group.count in_flight (all_head _ _ t3) in omega arith)));
      vacant = λ i l b. vacant_o (place_at s i) (place_zero s i l (every-at (place_in_order_at s) in_flight i (all_head _ _ t5) b));
    }

pub facts_in_order : (anc : ℕ → ℕ) (s : State) → InOrderFacts anc s → InOrder anc s
unfolding in_order seat_in_order_at seat_in_order place_in_order_at place_in_order
facts_in_order anc s f = record {
  shaped = f.shaped;
  tested =
      all_cons _ _ (eq-eqb _ 0 (shape_right s.group.n s.group.form s.group.span f.shape))
      (all_cons _ _ (not_i (eqb (minus (below s.group.n) s.group.dead) 0) (ne_eqb (minus (below s.group.n) s.group.dead) 0 f.lives))
      (all_cons _ _ (below_i s.group.dead s.group.n f.dead_in)
      (all_cons _ _ (le-leb s.group.count in_flight f.count-le)
      (all_cons _ _ (every_i (seat_in_order_at anc s) 64 (λ i l. rank i l (lt-or-le i s.group.n)))
      (all_cons _ _ (every_i (place_in_order_at s) in_flight (λ i l. place i l (lt-or-le i s.group.count))) all_nil)))));
}
  where
    rank : (i : ℕ) → i < 64 → (i < s.group.n) ⊎ (s.group.n ≤ i) → seat_in_order_at anc s i ≡ true
    rank i b (inl l) = cond_true (ltb i s.group.n) (member_in_order anc s.group.n s.group.dead i (rank_at s i) (row_at s i)) (stranger_in_order (rank_at s i) (row_at s i)) (lt-ltb i s.group.n l) ∙ member_i anc s.group.n s.group.dead i (rank_at s i) (row_at s i) f.shape.small l (f.member i l)
    rank i b (inr l) = cond_false (ltb i s.group.n) (member_in_order anc s.group.n s.group.dead i (rank_at s i) (row_at s i)) (stranger_in_order (rank_at s i) (row_at s i)) (le-ltb i s.group.n l) ∙ stranger_i (rank_at s i) (row_at s i) (f.stranger i l b).0 (f.stranger i l b).1

    place : (i : ℕ) → i < in_flight → (i < s.group.count) ⊎ (s.group.count ≤ i) → place_in_order_at s i ≡ true
    place i b (inl l) = cond_true (ltb i s.group.count) (message_in_order s.group.n s.group.dead (place_at s i)) (zero_place (place_at s i)) (lt-ltb i s.group.count l) ∙ message_i s.group.n s.group.dead (place_at s i) (f.message i l)
    place i b (inr l) = cond_false (ltb i s.group.count) (message_in_order s.group.n s.group.dead (place_at s i)) (zero_place (place_at s i)) (le-ltb i s.group.count l) ∙ vacant_i (place_at s i) (f.vacant i l b)

-- another box size, where both or neither is right with size and form, changes nothing
pub in_order_alike : (anc : ℕ → ℕ) (s : State) (y : ℕ) → misshapen s.group.n s.group.form y ≡ misshapen s.group.n s.group.form s.group.span → in_order anc (with_box y s) ≡ in_order anc s
unfolding in_order seat_in_order_at place_in_order_at
in_order_alike anc s y e = rw e

-- ---- the places hold the list, and zeros after it

pub places-held : (anc : ℕ → ℕ) (s : State) → InOrderFacts anc s → s.group.net ≡ padded (take s.group.count s.group.net)
places-held anc s f =
    ext_get_or zero_message net (padded l) (f.shaped.net-long ∙ sym (padded-long l (let b = f.count-le in omega (arith, ll)))) (λ k h. at k (let b = f.shaped.net-long in omega arith) (lt-or-le k c))
  where
    net : List Message
    net = s.group.net

    c : ℕ
    c = s.group.count

    l : List Message
    l = take c net

    ll : length l ≡ c
    ll = length-take-le c net (let a = f.count-le in let b = f.shaped.net-long in omega arith)

    at : (k : ℕ) → k < in_flight → (k < c) ⊎ (c ≤ k) → get_or net k zero_message ≡ get_or (padded l) k zero_message
    at k b (inl h) = sym (padded_in l k (omega (arith, ll)) ∙ get_or-take c net k zero_message h)
    at k b (inr h) = f.vacant k h b ∙ sym (padded-past l k (omega (arith, ll)))

-- ---- the tests along their code

pub zero_triple_test : (t : Triple) → eqb t.word 0 && (eqb t.known 0 && eqb t.acknowledged 0) ≡ is_zero t
unfolding is_zero
zero_triple_test t = simp (all-step, all_nil, and_true)

pub zero_record_test : (r : Rank) → eqb r.phase 0 && (eqb r.marks 0 && (eqb r.acknowledged 0 && (eqb r.heard 0 && (eqb r.awaited 0 && (eqb r.owed 0
    && ((eqb r.triple.word 0 && (eqb r.triple.known 0 && eqb r.triple.acknowledged 0)) && (eqb r.result.word 0 && (eqb r.result.known 0 && eqb r.result.acknowledged 0)))))))) ≡ zero_record r
unfolding zero_record
zero_record_test r = rw (zero_triple_test r.triple, zero_triple_test r.result) (simp (all-step, all_nil, and_true))

pub zero_place_test : (m : Message) → eqb m.kind 0 && (eqb m.from 0 && (eqb m.to 0 && (eqb m.triple.word 0 && (eqb m.triple.known 0 && eqb m.triple.acknowledged 0)))) ≡ zero_place m
unfolding zero_place
zero_place_test m = rw (zero_triple_test m.triple) (simp (all-step, all_nil, and_true))

pub message_far : (n dead : ℕ) (m : Message) → n ≤ m.from → false ≡ message_in_order n dead m
message_far n dead m l = sym (fails (message_in_order n dead m) (λ t. let h : m.from < n = (message_o n dead m t).from_in in omega arith))

seven : (a b c d e f g h : Bool) → a ≡ true → b && c && d && e && f && g && h ≡ all (a ∷ b ∷ c ∷ d ∷ e ∷ f ∷ g ∷ h ∷ [])
seven a b c d e f g h z = rw z (simp (all-step, all_nil, and_assoc, and_true))

pub message_test : (n dead : ℕ) (m : Message) (u : ℕ) (w t z : Bool) → m.from < n → u ≡ below m.from → w ≡ is_within u dead → t ≡ triple_within n m.triple → z ≡ is_zero m.triple
    → ltb m.to n && not (eqb m.from m.to) && leb up m.kind && leb m.kind ask && t && (not (eqb m.kind ask) || z) && (not (eqb m.kind ask) || w) ≡ message_in_order n dead m
unfolding message_in_order
message_test n dead m u w t z l e f g h =
    rw (f, e, g, h)
    (seven (ltb m.from n) (ltb m.to n) (not (eqb m.from m.to)) (leb up m.kind) (leb m.kind ask) (triple_within n m.triple) (not (eqb m.kind ask) || is_zero m.triple) (not (eqb m.kind ask) || is_within (below m.from) dead) (lt-ltb m.from n l))

pub seat_member : (anc : ℕ → ℕ) (n dead i : ℕ) (r : Rank) (row : List ℕ) (t : Bool) → i < n → t ≡ member_in_order anc n dead i r row → t ≡ seat_in_order anc n dead i r row
unfolding seat_in_order
seat_member anc n dead i r row t l e = e ∙ rw (lt-ltb i n l)

pub seat_stranger : (anc : ℕ → ℕ) (n dead i : ℕ) (r : Rank) (row : List ℕ) (t : Bool) → n ≤ i → t ≡ stranger_in_order r row → t ≡ seat_in_order anc n dead i r row
unfolding seat_in_order
seat_stranger anc n dead i r row t l e = e ∙ rw (le-ltb i n l)

pub net-message : (n dead c i : ℕ) (m : Message) (t : Bool) → i < c → t ≡ message_in_order n dead m → t ≡ place_in_order n dead c i m
unfolding place_in_order
net-message n dead c i m t l e = e ∙ rw (lt-ltb i c l)

pub net-zero : (n dead c i : ℕ) (m : Message) (t : Bool) → c ≤ i → t ≡ zero_place m → t ≡ place_in_order n dead c i m
unfolding place_in_order
net-zero n dead c i m t l e = e ∙ rw (le-ltb i c l)

-- a loop that tests each place: all before i pass
pub every_stops : (f : ℕ → Bool) (m k : ℕ) (t : Bool) → k < m → t ≡ f k → t ≡ false → false ≡ every f m
every_stops f m k t l e h = sym (every-not f m k l (sym e ∙ h))

pub every-ends : (f : ℕ → Bool) (m k : ℕ) → m ≤ k → ((j : ℕ) → j < k → f j ≡ true) → true ≡ every f m
every-ends f m k l h = sym (every_i f m (λ j b. h j (omega arith)))

pub every_more : (f : ℕ → Bool) (k : ℕ) (t : Bool) → ((j : ℕ) → j < k → f j ≡ true) → t ≡ f k → t ≡ true → (j : ℕ) → j < k + 1 → f j ≡ true
every_more f k t h e g j l = ⊎_elim (λ (q : j ≡ k). ap f q ∙ sym e ∙ g) (λ (q : j ≡ k → ⊥). h j (omega arith)) (eq_or_ne j k)

five : (z a b c d e : Bool) → z ≡ true → a && b && c && d && e ≡ all (z ∷ a ∷ b ∷ c ∷ d ∷ e ∷ [])
five z a b c d e h = rw h (simp (all-step, all_nil, and_assoc, and_true))

pub in_order_misshapen : (s : State) (k : ℕ) → k ≡ misshapen s.group.n s.group.form s.group.span → (k ≡ 0 → ⊥) → false ≡ in_order (own_tree s) s
unfolding in_order
in_order_misshapen s k e d = sym (fails _ (λ t. d (e ∙ eqb-true _ 0 (all_head _ _ t))))

pub in_order_test : (s : State) (u w : ℕ) (q x y : Bool) → misshapen s.group.n s.group.form s.group.span ≡ 0 → u ≡ below s.group.n → w ≡ minus u s.group.dead → q ≡ is_within s.group.dead u
    → x ≡ every (λ i. seat_in_order (own_tree s) s.group.n s.group.dead i (get_or s.group.ranks i zero_rank) (get_or s.tables i [])) 64
    → y ≡ every (λ i. place_in_order s.group.n s.group.dead s.group.count i (get_or s.group.net i zero_message)) 128
    → not (eqb w 0) && q && leb s.group.count 128 && x && y ≡ in_order (own_tree s) s
unfolding in_order seat_in_order_at place_in_order_at
in_order_test s u w q x y a eu ew eq ex ey =
    rw (ex, ey, eq, ew, eu)
    (five (eqb (misshapen s.group.n s.group.form s.group.span) 0) (not (eqb (minus (below s.group.n) s.group.dead) 0)) (is_within s.group.dead (below s.group.n)) (leb s.group.count 128)
    (every (seat_in_order_at (own_tree s) s) 64) (every (place_in_order_at s) 128) (eq-eqb _ 0 a))
