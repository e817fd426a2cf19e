-- What each reader asks of those that it calls and what its answer says, put together from their answers: the run that its
-- answer speaks of goes on as theirs, turn by turn, and each call has less to read. Assumes nothing.
use Prim.Native.Nat.{ℕ, suc, ◌+◌, ◌*◌, ◌-◌, ◌≤◌, ◌<◌}
use native.Mathlib.Omega.{arith}
use Rattle.std.specs.Prelude.{Result as Answer, Ok, Err, Some, None}
use Rattle.std.specs.Option.{is_none}
use Rattle.std.proofs.lemmas.Option.{none-some, cond_some}
use mathlib.Core.Path.{◌≡◌, refl, sym, ap, subst, ◌∙◌}
use mathlib.Core.List.{List, [], ◌∷◌, ◌++◌}
use mathlib.Core.Bool.{Bool, true, false, not, cond, true≢false, beq}
use lib.Dec.{eqb, ltb}
use lib.ListN.{length, drop, set, replicate, length-drop, drop_of_length-le, get_or-eq_default}
use borrow.Author.Tests.{eqb-true, eqb-false, ltb-true, ltb-false}
use Rattle.lists.proofs.Padded.{pad_none}
use Rattle.formula.specs.declared.Sign.{Sign}
use Rattle.formula.specs.Sign.{joins_terms}
use Rattle.formula.specs.Formula.{Name}
use Rattle.syntax.specs.Symbol.{Leaf, Relation, leaf, binary, constant, relation, contact, part}
use Rattle.syntax.specs.Machine.{Sym, Frame, in_parenthesis, after_minus, after_tilde, after_binary, first_of, second_of, rank_of, allow, State, want, have, call, Popped, guard, join, step, Result, run, reading}
use Rattle.syntax.specs.Reader.{code, codes, kind_at, top, binding_of, goes_at, above, follows_of, Holds, EndsAs, StopsBelow, Sorted, Within, Inside, Room, expected_of, ended_of, ended_in, related_of, related_in, zeroed_of, zeroed_in, Asked, Said, MoreAsked, MoreSaid, ParenthesisSaid, RelationAsked, RelationSaid, start_of, ParseSaid}
use Rattle.syntax.specs.Reader.{Read, Value, Refused, read_of}
use Rattle.syntax.specs.declared.Value.{Value as ValueRead}
use Rattle.syntax.proofs.MachineLaws.{pop_keep}
use Rattle.syntax.proofs.Heads.{kind_inside, length_codes, kind_on, Joins, binding_term, binding_formula, binding_zero, binding_end, rejected, NoTerm, no_term, no_opening, kind_at_lem, goes_at_lem, at_sign, at_leaf, at_binary}
use Rattle.syntax.proofs.Steps.{holds_one, inside_of, room_of, within_from, stops_looser, sorted_formula, goes_false, goes_last, stops_last, Turns, ended_goes, closed_goes, parted_goes, related_goes, zeroed_goes, ended_stops, ended_sorted, ended_within, expected_sorted, expected_within, zeroed_within, zeroed_stops}

-- ---- what is left to read, so that each call has less: twenty for a token, and the rank

abbrev pub left : List ℕ → ℕ → ℕ → ℕ
left ks a d = 20 * (length ks - a) + d

abbrev pub left_at : List ℕ → ℕ → ℕ → ℕ
left_at ks a k = left ks a (2 * (7 - k))

-- after an answer
abbrev pub left_after : List ℕ → Read → ℕ
left_after ks (Value t p n) = left ks p 18
left_after ks (Refused p) = 0

after_less : (ks : List ℕ) (a m : ℕ) (r : Read) → Within (length ks) a m r → left_after ks r < left ks a 1
after_less ks a m (Value t p n) w = omega arith
after_less ks a m (Refused p) w = omega arith

-- ---- level

pub level_formula_asked : (ks : List ℕ) (a k : ℕ) (w : Bool) (n t : ℕ) → Asked ks a k w n → left_at ks a k ≡ t → k < 4 → (left ks a 7 < t) × Asked ks a 3 true n
level_formula_asked ks a k w n t q u l = (omega arith, record { inside = q.inside; short = q.short; deep = omega arith; formula = λ h. refl; room = q.room; plain = λ h. absurd (omega arith) })

pub level_term_asked : (ks : List ℕ) (a k : ℕ) (w : Bool) (n t : ℕ) → Asked ks a k w n → left_at ks a k ≡ t → 4 ≤ k → (left ks a 1 < t) × Asked ks a 6 w n
level_term_asked ks a k w n t q u h = (omega (arith, q.deep), record { inside = q.inside; short = q.short; deep = omega arith; formula = λ l. absurd (omega arith); room = q.room; plain = λ l. q.plain h })

pub level_more_asked : (ks : List ℕ) (a k : ℕ) (w : Bool) (n t j : ℕ) (v : Bool) (A : List ℕ) (x : Read) (B : List ℕ) → Asked ks a k w n → left_at ks a k ≡ t → (k < 4 → j ≤ 3) → Said ks a j v n A x B → (left_after ks x < t) × MoreAsked ks k x
level_more_asked ks a k w n t j v A x B q u h s = (omega (arith, q.deep, after_less ks a n x s.within), record { short = q.short; deep = q.deep; inside = inside_of (length ks) a n x q.room s.within; stopped = λ l. stops_looser ks j 3 x (h l) s.stops })

pub level_said : (ks : List ℕ) (a k : ℕ) (w : Bool) (n j : ℕ) (v : Bool) (A : List ℕ) (x : Read) (B : List ℕ) (r : Read) (C : List ℕ) → v ≡ w → k ≤ j → Said ks a j v n A x B → MoreSaid ks k x B r C → Said ks a k w n A r C
level_said ks a k w n j v A x B r C u h s m =
    record {
      says = λ xs e K c l o g. m.says xs e K l (run (drop a xs) a (want K o)) (s.says xs e K (c ∙ sym u) (omega (arith, l, h)) o g);
      stops = m.stops;
      sorted = m.sorted w (subst (λ (b : Bool). Sorted b x) u s.sorted);
      within = m.within a n s.within;
    }

-- ---- more

-- a value and the binary sign that goes on it
pub record Found (ks : List ℕ) (k : ℕ) (s : Read) (t : Bool) (p n c b : ℕ) : Type 0 where
  pub asked : MoreAsked ks k s
  pub value : s ≡ Value t p n
  pub kind : c ≡ kind_at ks p
  pub rank : b ≡ binding_of t c
  pub above : k < b

pub found : {ks : List ℕ} {k : ℕ} {s : Read} {t : Bool} {p n c b : ℕ} → MoreAsked ks k s → s ≡ Value t p n → c ≡ kind_at ks p → b ≡ binding_of t c → k < b → Found ks k s t p n c b
found a v q r h = record { asked = a; value = v; kind = q; rank = r; above = h }

binding_inside : (ks : List ℕ) (t : Bool) (p : ℕ) → 0 < binding_of t (kind_at ks p) → p < length ks
binding_inside ks t p h = by_test (ltb p (length ks)) refl
  where
    by_test : (b : Bool) → ltb p (length ks) ≡ b → p < length ks
    by_test true q = ltb-true p (length ks) q
    by_test false q = absurd (let z : binding_of t (kind_at ks p) ≡ 0 = ap (binding_of t) (get_or-eq_default ks 19 (ltb-false p (length ks) q)) ∙ binding_end t in omega arith)

-- a sign of formulas has a rank below 3, and one of terms a rank from 4 on
record Rank (t : Bool) (b : ℕ) : Type 0 where
  deep : b ≤ 6
  formula : b < 4 → not t ≡ true
  term : 4 ≤ b → not t ≡ true → ⊥

rank_of_lem : (t : Bool) (c : ℕ) → 0 < binding_of t c → Rank t (binding_of t c)
rank_of_lem true c h = record { deep = (binding_term c).0; formula = λ l. absurd (let z : 5 ≤ binding_of true c = (binding_term c).1 h in omega arith); term = λ l q. true≢false (sym q) }
rank_of_lem false c h = record { deep = omega (arith, binding_formula c); formula = λ l. refl; term = λ l q. omega (arith, binding_formula c) }

-- =0 aside, what goes on a value is a binary sign
binding_goes : (t : Bool) (c : ℕ) → binding_of t c ≤ goes_at t c
unfolding goes_at
binding_goes t c = by_test (eqb c 10) refl
  where
    by_test : (b : Bool) → eqb c 10 ≡ b → binding_of t c ≤ cond b (cond t 4 0) (binding_of t c)
    by_test true q = let z : binding_of t c ≡ 0 = ap (binding_of t) (eqb-true c 10 q) ∙ binding_zero t in omega arith
    by_test false q = omega arith

goes_binding : (t : Bool) (c k : ℕ) → binding_of t c ≤ k → (k < 4 → goes_at t c ≤ 3) → goes_at t c ≤ k
unfolding goes_at
goes_binding t c k h s = by_test t (eqb c 10) (ltb k 4) refl s h
  where
    by_test : (v b d : Bool) → ltb k 4 ≡ d → (k < 4 → cond b (cond v 4 0) (binding_of t c) ≤ 3) → binding_of t c ≤ k → cond b (cond v 4 0) (binding_of t c) ≤ k
    by_test v false d q l m = m
    by_test false true d q l m = omega arith
    by_test true true true q l m = absurd (let z : 4 ≤ 3 = l (ltb-true k 4 q) in omega arith)
    by_test true true false q l m = ltb-false k 4 q

module _ (ks : List ℕ) (k : ℕ) (s : Read) (t : Bool) (p n c b : ℕ) (f : Found ks k s t p n c b) where
  found_binding : b ≡ binding_of t (kind_at ks p)
  found_binding = f.rank ∙ ap (binding_of t) f.kind

  found_positive : 0 < binding_of t (kind_at ks p)
  found_positive = omega (arith, found_binding, f.above)

  found_rank : Rank t b
  found_rank = subst (Rank t) (sym found_binding) (rank_of_lem t (kind_at ks p) found_positive)

  found_inside : Inside (length ks) (Value t p n)
  found_inside = subst (Inside (length ks)) f.value f.asked.inside

  found_left : left_after ks s ≡ left ks p 18
  found_left = ap (left_after ks) f.value

  pub more_level_asked : (u : ℕ) → left_after ks s ≡ u → (left_at ks (p + 1) b < u) × Asked ks (p + 1) b (not t) n
  more_level_asked u v =
      let here : p < length ks = binding_inside ks t p found_positive in
      let i : (p ≤ length ks) × (n ≤ p) = found_inside in
      (omega (arith, found_left, f.above), record { inside = omega arith; short = f.asked.short; deep = found_rank.deep; formula = found_rank.formula; room = omega arith; plain = λ h q. absurd (found_rank.term h q) })

  module _ (A : List ℕ) (x : Read) (B : List ℕ) (g : Said ks (p + 1) b (not t) n A x B) where
    pub more_ended_room : Room x
    more_ended_room = room_of (length ks) (p + 1) n x (omega (arith, found_inside.1)) f.asked.short g.within

    ended_inside : Within (length ks) p n (ended_of t x)
    ended_inside = ended_within (length ks) p n t x g.within

    stopped_formula : k < 4 → (v : Bool) → t ≡ v → StopsBelow ks 3 (Value v p n) → b ≤ 3
    stopped_formula h true q u = absurd (let z : 5 ≤ binding_of true (kind_at ks p) = (binding_term (kind_at ks p)).1 (subst (λ (v : Bool). 0 < binding_of v (kind_at ks p)) q found_positive) in omega (arith, binding_goes true (kind_at ks p), u))
    stopped_formula h false q u = omega (arith, found_binding ∙ ap (λ (v : Bool). binding_of v (kind_at ks p)) q, binding_formula (kind_at ks p))

    -- the sign is read, then its right value, and then it is written
    joined_goes : (xs : List Sym) → codes xs ≡ ks → (K : List Frame) → top K ≤ k → (R : Result) → EndsAs xs R K (Value t p n) A → EndsAs xs R K (ended_of t x) (ended_in t c x B)
    joined_goes xs e K h R v =
        let z : (a : Sign) × Joins t a (binding_of t (kind_at ks p)) × (kind_at ks p ≡ code (binary a)) × ((u : State) → run (drop p xs) p u ≡ run (drop (p + 1) xs) (p + 1) (step u (binary a) p)) = at_binary xs ks e p t found_positive in
        let a : Sign = z.0 in
        let j : t ≡ joins_terms a = z.1.0 in
        let i : b ≡ suc (rank_of a) = found_binding ∙ z.1.1 in
        let l : top K ≤ rank_of a = omega (arith, f.above) in
        let u : R ≡ run (drop (p + 1) xs) (p + 1) (want (after_binary a ∷ K) v.0) =
        v.2 ∙ z.3 (have t K v.0)
        ∙ ap (λ (q : Popped). run (drop (p + 1) xs) (p + 1) (guard (beq t (joins_terms a)) (join a q) p)) (pop_keep (rank_of a) K v.0 l)
        ∙ ap (λ (q : Bool). run (drop (p + 1) xs) (p + 1) (guard q (want (after_binary a ∷ K) v.0) p)) z.1.2 in
        subst (λ (q : ℕ). EndsAs xs R K (ended_of t x) (ended_in t q x B)) (sym (f.kind ∙ z.2))
        (ended_goes xs ks e R t (after_binary a) K x B j (subst (λ (q : ℕ). StopsBelow ks q x) i g.stops) g.sorted more_ended_room
        (subst (λ (q : Result). EndsAs xs q (after_binary a ∷ K) x B) (sym u) (g.says xs e (after_binary a ∷ K) (ap not (sym j)) (omega (arith, i)) v.0 v.1)))

    module _ (y : Read) (C : List ℕ) (d : (y ≡ ended_of t x) × (C ≡ ended_in t c x B)) where
      pub more_more_asked : (u : ℕ) → left_after ks s ≡ u → (left_after ks y < u) × MoreAsked ks k y
      more_more_asked u v = subst (λ (z : Read). (left_after ks z < u) × MoreAsked ks k z) (sym d.0) (
        omega (arith, found_left, after_less ks p n (ended_of t x) ended_inside),
        record {
          short = f.asked.short;
          deep = f.asked.deep;
          inside = inside_of (length ks) p n (ended_of t x) found_inside.1 ended_inside;
          stopped = λ h. ended_stops ks t 3 x (stops_looser ks b 3 x (stopped_formula h t refl (subst (StopsBelow ks 3) f.value (f.asked.stopped h))) g.stops);
        },
      )

      pub more_said : (r : Read) (D : List ℕ) → MoreSaid ks k y C r D → MoreSaid ks k s A r D
      more_said r D m = record {
        says = λ xs e K h R v. m.says xs e K h R (subst (λ (z : Read). EndsAs xs R K z C) (sym d.0) (subst (EndsAs xs R K (ended_of t x)) (sym d.1) (joined_goes xs e K h R (subst (λ (z : Read). EndsAs xs R K z A) f.value v))));
        stops = m.stops;
        sorted = λ w v. m.sorted w (subst (Sorted w) (sym d.0) (ended_sorted t w x (subst (Sorted w) f.value v)));
        within = λ a q v. m.within a q (subst (Within (length ks) a q) (sym d.0) (let i : (a < p) × (p ≤ length ks) × (n + a ≤ q + p) = subst (Within (length ks) a q) f.value v in within_from (length ks) a q p n (ended_of t x) (omega arith) i.2 ended_inside));
      }

-- no binary sign goes on the value
pub more_none : (ks : List ℕ) (k : ℕ) (s : Read) (t : Bool) (p n c b : ℕ) (A : List ℕ) → MoreAsked ks k s → s ≡ Value t p n → c ≡ kind_at ks p → b ≡ binding_of t c → b ≤ k → MoreSaid ks k s A (Value t p n) A
more_none ks k s t p n c b A a v q r h =
    let i : binding_of t (kind_at ks p) ≤ k = omega (arith, r ∙ ap (binding_of t) q) in
    subst (λ (z : Read). MoreSaid ks k z A (Value t p n) A) (sym v) (record {
      says = λ xs e K l R g. g;
      stops = goes_binding t (kind_at ks p) k i (λ l. subst (StopsBelow ks 3) v (a.stopped l));
      sorted = λ w g. g;
      within = λ m d g. g;
    })

pub more_refused : (ks : List ℕ) (k : ℕ) (s : Read) (p : ℕ) (A : List ℕ) → s ≡ Refused p → MoreSaid ks k s A (Refused p) A
more_refused ks k s p A v = subst (λ (z : Read). MoreSaid ks k z A (Refused p) A) (sym v) (record { says = λ xs e K l R g. g; stops = tt; sorted = λ w g. g; within = λ m d g. g })

-- ---- the signs that `more` reads, one after the other

-- what the loop holds: the value x that it has is asked as s was, and what is said of x is said of s
pub record MoreHeld (ks : List ℕ) (k : ℕ) (s : Read) (A : List ℕ) (x : Read) (B : List ℕ) : Type 0 where
  pub asked : MoreAsked ks k x
  pub later : left_after ks x ≤ left_after ks s
  pub goes : (r : Read) (D : List ℕ) → MoreSaid ks k x B r D → MoreSaid ks k s A r D

-- none of rank k or tighter
above_none : (k b : ℕ) → None ≡ above k b → b ≤ k
above_none k b e = by_test (ltb k b) refl e
  where
    by_test : (v : Bool) → ltb k b ≡ v → None ≡ cond v (Some b) None → b ≤ k
    by_test true q h = absurd (none-some b h)
    by_test false q h = ltb-false k b q

module _ (ks : List ℕ) (k : ℕ) (s : Read) (A : List ℕ) (t : Bool) (p n : ℕ) (B : List ℕ) (held : MoreHeld ks k s A (Value t p n) B) where
  -- none follows
  pub held_none : None ≡ follows_of ks k (Value t p n) → MoreSaid ks k s A (Value t p n) B
  held_none e = held.goes (Value t p n) B (more_none ks k (Value t p n) t p n (kind_at ks p) (binding_of t (kind_at ks p)) B held.asked refl refl refl (above_none k (binding_of t (kind_at ks p)) e))

  module _ (b c : ℕ) (e : Some b ≡ follows_of ks k (Value t p n)) (kind : c ≡ kind_at ks p) where
    held_found : Found ks k (Value t p n) t p n c b
    held_found =
        let i : (ltb k (binding_of t (kind_at ks p)) ≡ true) × (binding_of t (kind_at ks p) ≡ b) = cond_some (ltb k (binding_of t (kind_at ks p))) (binding_of t (kind_at ks p)) b (sym e) in
        found held.asked refl kind (sym i.1 ∙ sym (ap (binding_of t) kind)) (subst (λ (z : ℕ). k < z) i.1 (ltb-true k (binding_of t (kind_at ks p)) i.0))

    pub held_level_asked : (u : ℕ) → left_after ks s ≡ u → (left_at ks (p + 1) b < u) × Asked ks (p + 1) b (not t) n
    held_level_asked u v = let z : (left_at ks (p + 1) b < left ks p 18) × Asked ks (p + 1) b (not t) n = more_level_asked ks k (Value t p n) t p n c b held_found (left ks p 18) refl in (omega (arith, z.0, held.later, v), z.1)

    module _ (x : Read) (C : List ℕ) (g : Said ks (p + 1) b (not t) n B x C) where
      -- the sign or its right value is refused
      pub held_refused : (q : ℕ) (D : List ℕ) → (Refused q ≡ ended_of t x) × (D ≡ ended_in t c x C) → MoreSaid ks k s A (Refused q) D
      held_refused q D d = held.goes (Refused q) D (more_said ks k (Value t p n) t p n c b held_found B x C g (Refused q) D d (Refused q) D (more_refused ks k (Refused q) q D refl))

      pub held_next : (y : Read) (D : List ℕ) → (y ≡ ended_of t x) × (D ≡ ended_in t c x C) → MoreHeld ks k s A y D
      held_next y D d =
          let z : (left_after ks y < left ks p 18) × MoreAsked ks k y = more_more_asked ks k (Value t p n) t p n c b held_found B x C g y D d (left ks p 18) refl in
          record {
            asked = z.1;
            later = omega (arith, z.0, held.later);
            goes = λ r E m. held.goes r E (more_said ks k (Value t p n) t p n c b held_found B x C g y D d r E m);
          }

-- an answer on which no binary sign goes is the answer
none_follows : (ks : List ℕ) (k : ℕ) (s : Read) (A : List ℕ) → MoreAsked ks k s → is_none (follows_of ks k s) ≡ true → MoreSaid ks k s A s A
none_follows ks k (Value t p n) A a h = more_none ks k (Value t p n) t p n (kind_at ks p) (binding_of t (kind_at ks p)) A a refl refl refl (by_test (ltb k (binding_of t (kind_at ks p))) refl h)
  where
    by_test : (v : Bool) → ltb k (binding_of t (kind_at ks p)) ≡ v → is_none (cond v (Some (binding_of t (kind_at ks p))) None) ≡ true → binding_of t (kind_at ks p) ≤ k
    by_test true q g = absurd (true≢false (sym g))
    by_test false q g = ltb-false k (binding_of t (kind_at ks p)) q
none_follows ks k (Refused p) A a h = more_refused ks k (Refused p) p A refl

pub level_alone : (ks : List ℕ) (a k : ℕ) (w : Bool) (n j : ℕ) (v : Bool) (A : List ℕ) (x : Read) (B : List ℕ) → Asked ks a k w n → v ≡ w → k ≤ j → (k < 4 → j ≤ 3) → Said ks a j v n A x B → is_none (follows_of ks k x) ≡ true → Said ks a k w n A x B
level_alone ks a k w n j v A x B q u h l s f = level_said ks a k w n j v A x B x B u h s (none_follows ks k x B (level_more_asked ks a k w n (left_at ks a k) j v A x B q refl l s).1 f)

-- ---- what the readers ask of one another

-- a term alone may stand here
term_asked : (ks : List ℕ) (a k n : ℕ) → a ≤ length ks → length ks ≤ 256 → 4 ≤ k → k ≤ 6 → n ≤ a → Asked ks a k false n
term_asked ks a k n i s l d r = record { inside = i; short = s; deep = d; formula = λ h. absurd (omega arith); room = r; plain = λ h e. absurd (true≢false (sym e)) }

pub ended_room : (ks : List ℕ) (a k : ℕ) (w : Bool) (n j : ℕ) (v : Bool) (A : List ℕ) (x : Read) (B : List ℕ) → Asked ks a k w n → Said ks (a + 1) j v n A x B → Room x
ended_room ks a k w n j v A x B q s = room_of (length ks) (a + 1) n x (omega (arith, q.room)) q.short s.within

pub here_room : (ks : List ℕ) (a k : ℕ) (w : Bool) (n c : ℕ) → Asked ks a k w n → c ≡ kind_at ks a → c < 19 → n < 256
here_room ks a k w n c q e h = let here : a < length ks = kind_inside ks a (omega arith) in omega (arith, q.room, q.short)

pub said_inside : (ks : List ℕ) (a k : ℕ) (w : Bool) (n j : ℕ) (v : Bool) (A : List ℕ) (x : Read) (B : List ℕ) → Asked ks a k w n → Said ks a j v n A x B → (length ks ≤ 256) × Inside (length ks) x
said_inside ks a k w n j v A x B q s = (q.short, inside_of (length ks) a n x q.room s.within)

-- ---- formula_prefix

constant_at : (c : ℕ) → 12 ≤ c → c < 14 → (b : Bool) × (c ≡ code (constant b))
constant_at c h l = by_test (eqb c 12) refl
  where
    by_test : (v : Bool) → eqb c 12 ≡ v → (b : Bool) × (c ≡ code (constant b))
    by_test true e = (true, eqb-true c 12 e)
    by_test false e = (false, let z : c ≡ 12 → ⊥ = eqb-false c 12 e in omega arith)

relation_at : (c : ℕ) → 14 ≤ c → c < 16 → (d : Relation) × (code (relation d) ≡ c)
relation_at c h l = by_test (eqb c 14) refl
  where
    by_test : (v : Bool) → eqb c 14 ≡ v → (d : Relation) × (code (relation d) ≡ c)
    by_test true e = (contact, sym (eqb-true c 14 e))
    by_test false e = (part, let z : c ≡ 14 → ⊥ = eqb-false c 14 e in omega arith)

module _ (ks : List ℕ) (a n : ℕ) (q : Asked ks a 3 true n) where
  pub tilde_asked : (t c : ℕ) → left ks a 7 ≡ t → c ≡ kind_at ks a → c ≡ 7 → (left ks (a + 1) 7 < t) × Asked ks (a + 1) 3 true n
  tilde_asked t c u kind h = let here : a < length ks = kind_inside ks a (omega arith) in (omega arith, record { inside = omega arith; short = q.short; deep = omega arith; formula = λ h. refl; room = omega (arith, q.room); plain = λ h. absurd (omega arith) })

  pub relation_asked : (t c : ℕ) → left ks a 7 ≡ t → c ≡ kind_at ks a → c < 16 → (left ks (a + 1) 0 < t) × RelationAsked ks (a + 1) n
  relation_asked t c u kind h = let here : a < length ks = kind_inside ks a (omega arith) in (omega arith, record { inside = omega arith; short = q.short; room = omega (arith, q.room) })

  pub plain_asked : (t c : ℕ) → left ks a 7 ≡ t → c ≡ kind_at ks a → (c ≡ 7 → ⊥) → (12 ≤ c → 16 ≤ c) → (left_at ks a 4 < t) × Asked ks a 4 true n
  plain_asked t c u kind h l = (omega arith, record { inside = q.inside; short = q.short; deep = omega arith; formula = λ m. refl; room = q.room; plain = λ m e. subst (λ (z : ℕ). (z ≡ 7 → ⊥) × (12 ≤ z → 16 ≤ z)) kind (h, l) })

  pub tilde_said : (A : List ℕ) (x : Read) (B : List ℕ) (r : Read) (C : List ℕ) (c : ℕ) → c ≡ kind_at ks a → c ≡ 7 → Said ks (a + 1) 3 true n A x B → (r ≡ ended_of false x) × (C ≡ ended_in false c x B) → Said ks a 3 true n A r C
  tilde_said A x B r C c kind h s d =
      subst (λ (z : Read). Said ks a 3 true n A z C) (sym d.0) (subst (Said ks a 3 true n A (ended_of false x)) (sym (d.1 ∙ ap (λ (v : ℕ). ended_in false v x B) h)) (record {
        says = λ xs e K w l o g.
            ended_goes xs ks e (run (drop a xs) a (want K o)) false after_tilde K x B refl s.stops (sorted_formula true x refl) (ended_room ks a 3 true n 3 true A x B q s)
            (subst (λ (z : Result). EndsAs xs z (after_tilde ∷ K) x B) (sym (at_sign xs ks e a 7 (want K o) (sym kind ∙ h) (omega arith) ∙ ap (λ (b : Bool). run (drop (a + 1) xs) (a + 1) (guard b (want (after_tilde ∷ K) o) a)) w)) (s.says xs e (after_tilde ∷ K) refl (omega arith) o g));
        stops = ended_stops ks false 3 x s.stops;
        sorted = sorted_formula true (ended_of false x) refl;
        within = ended_within (length ks) a n false x s.within;
      }))

  pub constant_said : (A : List ℕ) (c : ℕ) → c ≡ kind_at ks a → 12 ≤ c → c < 14 → Said ks a 3 true n A (Value false (a + 1) (n + 1)) (set A n c)
  constant_said A c kind h m =
      let here : a < length ks = kind_inside ks a (omega arith) in
      let z : (b : Bool) × (c ≡ code (constant b)) = constant_at c h m in
      record {
        says = λ xs e K w t o g. (
          o ++ constant z.0 ∷ [],
          subst (λ (v : ℕ). Holds (set A n v) (n + 1) (o ++ constant z.0 ∷ [])) (sym z.1) (holds_one A n o (constant z.0) g (omega (arith, q.room, q.short))),
          constant_goes xs e K o z.0 w (sym kind ∙ z.1),
        );
        stops = goes_false (kind_at ks (a + 1));
        sorted = λ e. absurd (true≢false e);
        within = (omega arith, omega arith, omega arith);
      }
    where
      constant_goes : (xs : List Sym) → codes xs ≡ ks → (K : List Frame) (o : List Sym) (b : Bool) → allow K ≡ true → kind_at ks a ≡ code (constant b) → run (drop a xs) a (want K o) ≡ run (drop (a + 1) xs) (a + 1) (have false K (o ++ constant b ∷ []))
      constant_goes xs e K o true w u = at_sign xs ks e a 12 (want K o) u (omega arith) ∙ ap (λ (b : Bool). run (drop (a + 1) xs) (a + 1) (guard b (have false K (o ++ constant true ∷ [])) a)) w
      constant_goes xs e K o false w u = at_sign xs ks e a 13 (want K o) u (omega arith) ∙ ap (λ (b : Bool). run (drop (a + 1) xs) (a + 1) (guard b (have false K (o ++ constant false ∷ [])) a)) w

  pub relation_prefix_said : (A : List ℕ) (r : Read) (B : List ℕ) (c : ℕ) → c ≡ kind_at ks a → 14 ≤ c → c < 16 → RelationSaid ks (a + 1) c n A r B → Said ks a 3 true n A r B
  relation_prefix_said A r B c kind h m s =
      let z : (d : Relation) × (code (relation d) ≡ c) = relation_at c h m in
      record {
        says = λ xs e K w t o g. subst (λ (u : Result). EndsAs xs u K r B) (sym (relation_goes xs e K o z.0 w (sym kind ∙ sym z.1))) (s.says xs e z.0 z.1 K w o g);
        stops = s.stops;
        sorted = sorted_formula true r refl;
        within = within_from (length ks) a n (a + 1) (n + 1) r (omega arith) (omega arith) s.within;
      }
    where
      relation_goes : (xs : List Sym) → codes xs ≡ ks → (K : List Frame) (o : List Sym) (d : Relation) → allow K ≡ true → kind_at ks a ≡ code (relation d) → run (drop a xs) a (want K o) ≡ run (drop (a + 1) xs) (a + 1) (call d K o)
      relation_goes xs e K o contact w u = at_sign xs ks e a 14 (want K o) u (omega arith) ∙ ap (λ (b : Bool). run (drop (a + 1) xs) (a + 1) (guard b (call contact K o) a)) w
      relation_goes xs e K o part w u = at_sign xs ks e a 15 (want K o) u (omega arith) ∙ ap (λ (b : Bool). run (drop (a + 1) xs) (a + 1) (guard b (call part K o) a)) w

  pub zeroed_said : (A : List ℕ) (x : Read) (B : List ℕ) (r : Read) (C : List ℕ) → Said ks a 4 true n A x B → (r ≡ zeroed_of ks x) × (C ≡ zeroed_in ks x B) → Said ks a 3 true n A r C
  zeroed_said A x B r C s d =
      let i : (length ks ≤ 256) × Inside (length ks) x = said_inside ks a 3 true n 4 true A x B q s in
      subst (λ (z : Read). Said ks a 3 true n A z C) (sym d.0) (subst (Said ks a 3 true n A (zeroed_of ks x)) (sym d.1) (record {
        says = λ xs e K w l o g. zeroed_goes xs ks e (run (drop a xs) a (want K o)) K x B w (omega (arith, l)) i.0 i.1 (s.says xs e K w (omega (arith, l)) o g);
        stops = zeroed_stops ks x s.stops;
        sorted = sorted_formula true (zeroed_of ks x) refl;
        within = zeroed_within ks a n x s.within;
      }))

-- ---- term_prefix

module _ (ks : List ℕ) (a : ℕ) (w : Bool) (n : ℕ) (q : Asked ks a 6 w n) where
  pub minus_asked : (t c : ℕ) → left ks a 1 ≡ t → c ≡ kind_at ks a → c ≡ 6 → (left ks (a + 1) 1 < t) × Asked ks (a + 1) 6 false n
  minus_asked t c u kind h = let here : a < length ks = kind_inside ks a (omega arith) in (omega arith, term_asked ks (a + 1) 6 n (omega arith) q.short (omega arith) (omega arith) (omega (arith, q.room)))

  pub parenthesis_asked : (t c : ℕ) → left ks a 1 ≡ t → c ≡ kind_at ks a → c ≡ 8 → (left ks (a + 1) 15 < t) × Asked ks (a + 1) (start_of w) w n
  parenthesis_asked t c u kind e = let here : a < length ks = kind_inside ks a (omega arith) in (omega arith, by_sort here w)
    where
      by_sort : a < length ks → (v : Bool) → Asked ks (a + 1) (start_of v) v n
      by_sort here true = record { inside = omega arith; short = q.short; deep = omega arith; formula = λ h. refl; room = omega (arith, q.room); plain = λ h. absurd (omega arith) }
      by_sort here false = term_asked ks (a + 1) 4 n (omega arith) q.short (omega arith) (omega arith) (omega (arith, q.room))

  pub minus_said : (A : List ℕ) (x : Read) (B : List ℕ) (r : Read) (C : List ℕ) (c : ℕ) → c ≡ kind_at ks a → c ≡ 6 → Said ks (a + 1) 6 false n A x B → (r ≡ ended_of true x) × (C ≡ ended_in true c x B) → Said ks a 6 w n A r C
  minus_said A x B r C c kind h s d =
      subst (λ (z : Read). Said ks a 6 w n A z C) (sym d.0) (subst (Said ks a 6 w n A (ended_of true x)) (sym (d.1 ∙ ap (λ (v : ℕ). ended_in true v x B) h)) (record {
        says = λ xs e K v l o g.
            ended_goes xs ks e (run (drop a xs) a (want K o)) true after_minus K x B refl s.stops s.sorted (ended_room ks a 6 w n 6 false A x B q s)
            (subst (λ (z : Result). EndsAs xs z (after_minus ∷ K) x B) (sym (at_sign xs ks e a 6 (want K o) (sym kind ∙ h) (omega arith))) (s.says xs e (after_minus ∷ K) refl (omega arith) o g));
        stops = stops_last ks (ended_of true x);
        sorted = ended_sorted true w x (λ v. refl);
        within = ended_within (length ks) a n true x s.within;
      }))

  pub parenthesis_prefix_said : (A : List ℕ) (r : Read) (B : List ℕ) (c : ℕ) → c ≡ kind_at ks a → c ≡ 8 → ParenthesisSaid ks (a + 1) w n A r B → Said ks a 6 w n A r B
  parenthesis_prefix_said A r B c kind h s = record {
    says = λ xs e K v l o g. subst (λ (z : Result). EndsAs xs z K r B) (sym (at_sign xs ks e a 8 (want K o) (sym kind ∙ h) (omega arith))) (s.says xs e K v o g);
    stops = stops_last ks r;
    sorted = s.sorted;
    within = within_from (length ks) a n (a + 1) n r (omega arith) (omega arith) s.within;
  }

  pub leaf_said : (A : List ℕ) (c : ℕ) → c ≡ kind_at ks a → 16 ≤ c → c < 19 → Said ks a 6 w n A (Value true (a + 1) (n + 1)) (set A n c)
  leaf_said A c kind h m =
      let here : a < length ks = kind_inside ks a (omega arith) in
      record {
        says = λ xs e K v t o g.
            let z : (y : Leaf Name) × (code (leaf y) ≡ kind_at ks a) × ((s : State) → run (drop a xs) a s ≡ run (drop (a + 1) xs) (a + 1) (step s (leaf y) a)) = at_leaf xs ks e a (omega arith) (omega arith) in (
              o ++ leaf z.0 ∷ [],
              subst (λ (u : ℕ). Holds (set A n u) (n + 1) (o ++ leaf z.0 ∷ [])) (z.1 ∙ sym kind) (holds_one A n o (leaf z.0) g (omega (arith, q.room, q.short))),
              z.2 (want K o),
            );
        stops = goes_last true (kind_at ks (a + 1));
        sorted = λ e. refl;
        within = (omega arith, omega arith, omega arith);
      }

  pub no_term_said : (A : List ℕ) (c : ℕ) → c ≡ kind_at ks a → (c ≡ 6 → ⊥) → (c ≡ 8 → ⊥) → (16 ≤ c → 19 ≤ c) → Said ks a 6 w n A (Refused a) A
  no_term_said A c kind h6 h8 h = record {
    says = λ xs e K v l o g.
        let i : c ≡ kind_on (drop a xs) = kind ∙ kind_at_lem xs ks e a in
        no_term (drop a xs) a K o (subst (λ (z : ℕ). NoTerm z (allow K)) i (h6, h8, h, λ u. subst (λ (z : ℕ). (z ≡ 7 → ⊥) × (12 ≤ z → 16 ≤ z)) (sym kind) (q.plain (omega arith) (sym v ∙ u))));
    stops = tt;
    sorted = tt;
    within = tt;
  }

-- ---- formula_prefix at a parenthesis: what it holds is read as a term's parenthesis, then the signs of terms

module _ (ks : List ℕ) (a n : ℕ) (q : Asked ks a 3 true n) (c : ℕ) (kind : c ≡ kind_at ks a) (h : c ≡ 8) where
  opening_plain : Asked ks a 4 true n
  opening_plain = (plain_asked ks a n q (left ks a 7) c refl kind (λ e. absurd (omega arith)) (λ e. absurd (omega arith))).1

  opening_term : Asked ks a 6 true n
  opening_term = (level_term_asked ks a 4 true n (left_at ks a 4) opening_plain refl (omega arith)).1

  pub opening_asked : (t : ℕ) → left ks a 7 ≡ t → (left ks (a + 1) 15 < t) × Asked ks (a + 1) 0 true n
  opening_asked t u = let z : (left ks (a + 1) 15 < left ks a 1) × Asked ks (a + 1) 0 true n = parenthesis_asked ks a true n opening_term (left ks a 1) c refl kind h in (omega (arith, z.0, u), z.1)

  module _ (A : List ℕ) (x : Read) (B : List ℕ) (s : ParenthesisSaid ks (a + 1) true n A x B) where
    opening_read : Said ks a 6 true n A x B
    opening_read = parenthesis_prefix_said ks a true n opening_term A x B c kind h s

    pub opening_more_asked : (t : ℕ) → left ks a 7 ≡ t → (left_after ks x < t) × MoreAsked ks 4 x
    opening_more_asked t u = let z : (left_after ks x < left_at ks a 4) × MoreAsked ks 4 x = level_more_asked ks a 4 true n (left_at ks a 4) 6 true A x B opening_plain refl (λ l. absurd (omega arith)) opening_read in (omega (arith, z.0, u), z.1)

    pub opening_joined : (y : Read) (C : List ℕ) → MoreSaid ks 4 x B y C → Said ks a 4 true n A y C
    opening_joined y C m = level_said ks a 4 true n 6 true A x B y C refl (omega arith) opening_read m

    pub opening_alone : is_none (follows_of ks 4 x) ≡ true → Said ks a 4 true n A x B
    opening_alone f = level_alone ks a 4 true n 6 true A x B opening_plain refl (omega arith) (λ l. absurd (omega arith)) opening_read f

    -- what the parenthesis holds is refused
    pub opening_refused : (p : ℕ) → x ≡ Refused p → Said ks a 3 true n A (Refused p) B
    opening_refused p v =
        zeroed_said ks a n q A (Refused p) B (Refused p) B (opening_joined (Refused p) B (more_refused ks 4 x p B v)) (refl, refl)

-- ---- parenthesis

pub parenthesis_level_asked : (ks : List ℕ) (a : ℕ) (w : Bool) (n t k : ℕ) → Asked ks a (start_of w) w n → left ks a 15 ≡ t → k ≡ start_of w → (left_at ks a k < t) × Asked ks a k w n
parenthesis_level_asked ks a w n t k q u e = (omega arith, subst (λ (z : ℕ). Asked ks a z w n) (sym e) q)

pub parenthesis_said : (ks : List ℕ) (a : ℕ) (w : Bool) (n k : ℕ) (A : List ℕ) (x : Read) (B : List ℕ) (r : Read) → k ≡ start_of w → Said ks a k w n A x B → r ≡ expected_of ks 9 x → ParenthesisSaid ks a w n A r B
parenthesis_said ks a w n k A x B r e s d =
    subst (λ (z : Read). ParenthesisSaid ks a w n A z B) (sym d) (record {
      says = λ xs i K v o g. closed_goes xs ks i (run (drop a xs) a (want (in_parenthesis ∷ K) o)) w K x B v s.sorted (subst (λ (z : ℕ). StopsBelow ks z x) e s.stops) (s.says xs i (in_parenthesis ∷ K) v (omega arith) o g);
      sorted = expected_sorted ks 9 w x s.sorted;
      within = expected_within ks 9 a n x (omega arith) s.within;
    })

-- ---- relation

related_stops : (ks : List ℕ) (r : Read) → StopsBelow ks 3 (related_of r)
related_stops ks (Value t p n) = goes_false (kind_at ks p)
related_stops ks (Refused p) = tt

related_within : (l a m : ℕ) (r : Read) → Within l a m r → Within l a (m + 1) (related_of r)
related_within l a m (Value t p n) w = (w.0, w.1, omega arith)
related_within l a m (Refused p) w = tt

module _ (ks : List ℕ) (a n : ℕ) (q : RelationAsked ks a n) where
  pub first_asked : (t c : ℕ) → left ks a 0 ≡ t → c ≡ kind_at ks a → c ≡ 8 → (left_at ks (a + 1) 4 < t) × Asked ks (a + 1) 4 false n
  first_asked t c u kind h = let here : a < length ks = kind_inside ks a (omega arith) in (omega arith, term_asked ks (a + 1) 4 n (omega arith) q.short (omega arith) (omega arith) (omega (arith, q.room)))

  pub no_opening_said : (A : List ℕ) (d c : ℕ) → c ≡ kind_at ks a → (c ≡ 8 → ⊥) → RelationSaid ks a d n A (Refused a) A
  no_opening_said A d c kind h = record {
    says = λ xs e f u K w o g. no_opening (drop a xs) a f K o (λ z. h (kind ∙ kind_at_lem xs ks e a ∙ z));
    stops = tt;
    within = tt;
  }

  module _ (A : List ℕ) (x : Read) (B : List ℕ) (s : Said ks (a + 1) 4 false n A x B) where
    pub first_inside : Inside (length ks) x
    first_inside = inside_of (length ks) (a + 1) n x (omega (arith, q.room)) s.within

    first_turns : (c : ℕ) → c ≡ kind_at ks a → c ≡ 8 → (xs : List Sym) (e : codes xs ≡ ks) (d : Relation) (K : List Frame) (o : List Sym) → Holds A n o → Turns xs (run (drop a xs) a (call d K o)) d K (expected_of ks 11 x) B
    first_turns c kind h xs e d K o g =
        parted_goes xs ks e (run (drop a xs) a (call d K o)) d K x B s.sorted s.stops
        (subst (λ (z : Result). EndsAs xs z (first_of d ∷ K) x B) (sym (at_sign xs ks e a 8 (call d K o) (sym kind ∙ h) (omega arith))) (s.says xs e (first_of d ∷ K) refl (omega arith) o g))

    pub first_refused : (y : Read) (p d c : ℕ) → c ≡ kind_at ks a → c ≡ 8 → y ≡ expected_of ks 11 x → y ≡ Refused p → RelationSaid ks a d n A (Refused p) B
    first_refused y p d c kind h e r = record {
      says = λ xs i f u K w o g. subst (λ (z : Read). Turns xs (run (drop a xs) a (call f K o)) f K z B) (sym e ∙ r) (first_turns c kind h xs i f K o g);
      stops = tt;
      within = tt;
    }

    module _ (y : Read) (t : Bool) (p m : ℕ) (e : y ≡ expected_of ks 11 x) (v : y ≡ Value t p m) where
      second_within : (a + 1 < p) × (p ≤ length ks) × (m + (a + 1) ≤ n + p)
      second_within = subst (Within (length ks) (a + 1) n) (sym e ∙ v) (expected_within ks 11 (a + 1) n x (omega arith) s.within)

      second_term : Asked ks p 4 false m
      second_term = term_asked ks p 4 m second_within.1 q.short (omega arith) (omega arith) (omega (arith, second_within, q.room))

      pub second_asked : (u : ℕ) → left ks a 0 ≡ u → (left_at ks p 4 < u) × Asked ks p 4 false m
      second_asked u i = (omega (arith, second_within), second_term)

      module _ (z : Read) (C : List ℕ) (g : Said ks p 4 false m B z C) where
        pub second_inside : Inside (length ks) z
        second_inside = inside_of (length ks) p m z second_term.room g.within

        second_expected : Within (length ks) p m (expected_of ks 9 z)
        second_expected = expected_within ks 9 p m z (omega arith) g.within

        second_room : m < p
        second_room = omega (arith, second_within, q.room)

        pub related_room : (r : Read) → r ≡ expected_of ks 9 z → Room r
        related_room r f = subst Room (sym f) (room_of (length ks) p m (expected_of ks 9 z) second_room q.short second_expected)

        pub relation_said : (f r : Read) (D : List ℕ) (d c : ℕ) → c ≡ kind_at ks a → c ≡ 8 → f ≡ expected_of ks 9 z → (r ≡ related_of f) × (D ≡ related_in d f C) → RelationSaid ks a d n A r D
        relation_said f r D d c kind h i j =
            subst (λ (u : Read). RelationSaid ks a d n A u D) (sym (j.0 ∙ ap related_of i)) (subst (RelationSaid ks a d n A (related_of (expected_of ks 9 z))) (sym (j.1 ∙ ap (λ (u : Read). related_in d u C) i)) (record {
              says = λ xs b u w K l o H.
                  let R : Result = run (drop a xs) a (call u K o) in
                  let T : Turns xs R u K (Value t p m) B = subst (λ (y : Read). Turns xs R u K y B) (sym e ∙ v) (first_turns c kind h xs b u K o H) in
                  related_goes xs ks b R u d K z C w g.sorted g.stops (room_of (length ks) p m z second_room q.short g.within)
                  (subst (λ (Q : Result). EndsAs xs Q (second_of u ∷ K) z C) (sym T.2) (g.says xs b (second_of u ∷ K) refl (omega arith) T.0 T.1));
              stops = related_stops ks (expected_of ks 9 z);
              within = within_from (length ks) a (n + 1) p (m + 1) (related_of (expected_of ks 9 z)) (omega (arith, second_within)) (omega (arith, second_within)) (related_within (length ks) p m (expected_of ks 9 z) second_expected);
            }))

-- ---- a refusal that `?` hands on

module _ {r : Answer ValueRead ℕ} {p : ℕ} (e : r ≡ Err p) where
  pub said_err : {ks : List ℕ} {a k : ℕ} {w : Bool} {n : ℕ} {A B : List ℕ} → Said ks a k w n A (Refused p) B → Said ks a k w n A (read_of r) B
  said_err {ks} {a} {k} {w} {n} {A} {B} s = subst (λ (x : Answer ValueRead ℕ). Said ks a k w n A (read_of x) B) (sym e) s

  pub more_err : {ks : List ℕ} {k : ℕ} {s : Read} {A B : List ℕ} → MoreSaid ks k s A (Refused p) B → MoreSaid ks k s A (read_of r) B
  more_err {ks} {k} {s} {A} {B} m = subst (λ (x : Answer ValueRead ℕ). MoreSaid ks k s A (read_of x) B) (sym e) m

  pub parenthesis_err : {ks : List ℕ} {a : ℕ} {w : Bool} {n : ℕ} {A B : List ℕ} → ParenthesisSaid ks a w n A (Refused p) B → ParenthesisSaid ks a w n A (read_of r) B
  parenthesis_err {ks} {a} {w} {n} {A} {B} s = subst (λ (x : Answer ValueRead ℕ). ParenthesisSaid ks a w n A (read_of x) B) (sym e) s

  pub relation_err : {ks : List ℕ} {a d n : ℕ} {A B : List ℕ} → RelationSaid ks a d n A (Refused p) B → RelationSaid ks a d n A (read_of r) B
  relation_err {ks} {a} {d} {n} {A} {B} s = subst (λ (x : Answer ValueRead ℕ). RelationSaid ks a d n A (read_of x) B) (sym e) s

pub parse_err : (ks A B : List ℕ) {r : Answer ℕ ℕ} {p : ℕ} → r ≡ Err p → ParseSaid ks A (Err p) B → ParseSaid ks A r B
parse_err ks A B e s = subst (λ (x : Answer ℕ ℕ). ParseSaid ks A x B) (sym e) s

-- ---- parse

module _ (ks : List ℕ) (A : List ℕ) (x : Read) (B : List ℕ) (s : Said ks 0 0 true 0 A x B) where
  whole : (y : Read) → x ≡ y → (xs : List Sym) → codes xs ≡ ks → A ≡ replicate 256 0 → EndsAs xs (reading xs) [] y B
  unfolding reading codes
  whole y v xs e h = subst (λ (z : Read). EndsAs xs (reading xs) [] z B) v (s.says xs e [] refl (omega arith) [] (h ∙ pad_none 256, refl))

  stops_whole : (t : Bool) (p n : ℕ) → x ≡ Value t p n → goes_at t (kind_at ks p) ≤ 0
  stops_whole t p n v = subst (StopsBelow ks 0) v s.stops

  pub whole_term : (t : Bool) (p n : ℕ) → x ≡ Value t p n → t ≡ true → ParseSaid ks A (Err p) B
  whole_term t p n v u xs e h =
      let g : EndsAs xs (reading xs) [] (Value t p n) B = whole (Value t p n) v xs e h in
      g.2 ∙ rejected (drop p xs) t 0 p [] g.0 (goes_at_lem xs ks e p t 0 (stops_whole t p n v)) (omega arith) (omega arith) (λ z. refl) (λ z. refl) (λ z. absurd (omega arith)) (λ z f. absurd (true≢false (sym u ∙ f)))

  pub whole_longer : (t : Bool) (p n : ℕ) → x ≡ Value t p n → p < length ks → ParseSaid ks A (Err p) B
  whole_longer t p n v l xs e h =
      let g : EndsAs xs (reading xs) [] (Value t p n) B = whole (Value t p n) v xs e h in
      g.2 ∙ rejected (drop p xs) t 0 p [] g.0 (goes_at_lem xs ks e p t 0 (stops_whole t p n v)) (omega arith) (omega arith) (λ z. refl) (λ z. refl) (λ z. absurd (omega arith))
      (λ z f. absurd (let i : length xs - p ≡ 0 = sym (length-drop p xs) ∙ ap length z in let j : length xs ≡ length ks = sym (length_codes xs) ∙ ap length e in omega arith))

  pub whole_formula : (t : Bool) (p n : ℕ) → x ≡ Value t p n → t ≡ false → length ks ≤ p → ParseSaid ks A (Ok n) B
  unfolding run
  whole_formula t p n v u l xs e h =
      let g : EndsAs xs (reading xs) [] (Value t p n) B = whole (Value t p n) v xs e h in
      let j : length xs ≡ length ks = sym (length_codes xs) ∙ ap length e in
      (g.0, g.1, g.2 ∙ ap (λ (k : List Sym). run k p (have t [] g.0)) (drop_of_length-le xs (let m : length xs ≤ p = omega arith in m)) ∙ ap (λ (b : Bool). run [] p (have b [] g.0)) u)

  pub whole_refused : (p : ℕ) → x ≡ Refused p → ParseSaid ks A (Err p) B
  whole_refused p v xs e h = whole (Refused p) v xs e h
