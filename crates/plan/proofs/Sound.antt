-- What is read is a plan, and its words are those that were read: each state says which words led to it, and a step adds its own.
-- Assumes nothing.
use mathlib.Core.Path.{◌≡◌, refl, sym, ap, ap₂, ◌∙◌, subst}
use mathlib.Core.Bool.{Bool, true, false, ◌&&◌, cond, and-eq-true_iff}
use mathlib.Core.List.{List, [], ◌∷◌, ◌++◌, map, append-nil, append_assoc, map-append}
use Prim.Native.Nat.{ℕ, zero, suc, ◌+◌, ◌-◌, ◌*◌, ◌^◌, ◌/◌, ◌%◌, ◌≤◌, ◌<◌}
use native.Mathlib.Omega.{arith}
use lib.Dec.{eqb, ltb, leb}
use lib.ListN.{length, length-append}
use borrow.Author.Tests.{leb-true, ltb-true, eqb-true}
use Rattle.plan.specs.declared.Word.{Word}
use Rattle.plan.specs.declared.Word.TheVariants.{First, Point, Contact, Last, Other}
use Rattle.plan.specs.Words.{Plan, Ascends, Rises, IsPlan, first_word, point_word, contact_word, last_word, before, words_of}
use Rattle.plan.specs.Reader.{kind_of, State, start, pointing, linking, whole, dead, opened, went, pointed, linked, step, run}
use Rattle.plan.proofs.Spelling.{Spells, spells}
use Rattle.plan.proofs.Complete.{before_length}
use Rattle.evalset.specs.Most.{most}

pub record PointsSeen (ws : List ℕ) (n m : ℕ) (pts : List ℕ) (low : ℕ) : Type 0 where
  pub few : n ≤ most
  pub words : ws ≡ first_word n (length pts + suc m) ∷ map point_word pts
  pub room : low + m < 2 ^ n
  pub ascend : (es : List ℕ) → Ascends low (2 ^ n) es → Ascends 0 (2 ^ n) (pts ++ es)

pub record LinksSeen (ws : List ℕ) (n : ℕ) (pts ks : List ℕ) (low : ℕ) : Type 0 where
  pub few : n ≤ most
  pub some : 0 < length pts
  pub ascend : Ascends 0 (2 ^ n) pts
  pub words : ws ≡ first_word n (length pts) ∷ (map point_word pts ++ map contact_word ks)
  pub rise : (js : List ℕ) → Rises low (length pts) js → Rises 0 (length pts) (ks ++ js)

abbrev pub Seen : List ℕ → State → Type 0
Seen ws start = ws ≡ []
Seen ws (pointing n m pts low) = PointsSeen ws n m pts low
Seen ws (linking n pts ks low) = LinksSeen ws n pts ks low
Seen ws (whole p) = IsPlan p × (ws ≡ words_of p)
Seen ws dead = Unit {0}

open_step : (w : ℕ) (k : Word) → Spells w k → Seen (w ∷ []) (opened k)
open_step w (First n c) e = go (leb n most && (leb 1 c && leb c (2 ^ n))) refl
  where
    go : (b : Bool) → (leb n most && (leb 1 c && leb c (2 ^ n))) ≡ b → Seen (w ∷ []) (cond b (pointing n (c - 1) [] 0) dead)
    go true h =
        let t = (and-eq-true_iff (leb n most) (leb 1 c && leb c (2 ^ n))).0 h in
        let u = (and-eq-true_iff (leb 1 c) (leb c (2 ^ n))).0 t.1 in
        let one : 1 ≤ c = leb-true 1 c u.0 in
        let top : c ≤ 2 ^ n = leb-true c (2 ^ n) u.1 in
        let cs : c ≡ 0 + suc (c - 1) = omega arith in
        record {
          few = leb-true n most t.0;
          words = ap (λ (x : ℕ). x ∷ []) (e ∙ ap (first_word n) cs);
          room = omega arith;
          ascend = λ es a. a;
        }
    go false h = tt
open_step w (Point p) e = tt
open_step w (Contact i j) e = tt
open_step w (Last c) e = tt
open_step w Other e = tt

-- one point more
point_step : (ws : List ℕ) (n m : ℕ) (pts : List ℕ) (low w e : ℕ) → PointsSeen ws n m pts low → w ≡ point_word e
    → low ≤ e → e + m < 2 ^ n → Seen (ws ++ (w ∷ [])) (went n m (pts ++ (e ∷ [])) e)
point_step ws n m pts low w e s q h r = go m s r
  where
    spelt : (c : ℕ) → ws ≡ first_word n c ∷ map point_word pts → ws ++ (w ∷ []) ≡ first_word n c ∷ map point_word (pts ++ (e ∷ []))
    spelt c z = ap₂ (λ (x : List ℕ) (y : ℕ). x ++ (y ∷ [])) z q
        ∙ ap (λ (l : List ℕ). first_word n c ∷ l) (sym (map-append point_word pts (e ∷ [])))

    longer : length (pts ++ (e ∷ [])) ≡ suc (length pts)
    longer = omega (arith, length-append pts (e ∷ []))

    go : (m : ℕ) → PointsSeen ws n m pts low → e + m < 2 ^ n → Seen (ws ++ (w ∷ [])) (went n m (pts ++ (e ∷ [])) e)
    go zero s r =
        let c : length pts + 1 ≡ length (pts ++ (e ∷ [])) = omega (arith, longer) in
        record {
          few = s.few;
          some = omega (arith, longer);
          ascend = s.ascend (e ∷ []) (h, omega arith, tt);
          words = spelt _ s.words
              ∙ ap (λ (x : ℕ). first_word n x ∷ map point_word (pts ++ (e ∷ []))) c
              ∙ ap (λ (l : List ℕ). first_word n (length (pts ++ (e ∷ []))) ∷ l)
              (sym (append-nil (map point_word (pts ++ (e ∷ [])))));
          rise = λ js a. a;
        }
    go (suc m) s r =
        let c : length pts + suc (suc m) ≡ length (pts ++ (e ∷ [])) + suc m = omega (arith, longer) in
        record {
          few = s.few;
          words = spelt _ s.words ∙ ap (λ (x : ℕ). first_word n x ∷ map point_word (pts ++ (e ∷ []))) c;
          room = omega arith;
          ascend = λ es a. subst (Ascends 0 (2 ^ n)) (sym (append_assoc pts (e ∷ []) es)) (s.ascend (e ∷ es) (h, omega arith, a));
        }

points_step : (ws : List ℕ) (n m : ℕ) (pts : List ℕ) (low w : ℕ) (k : Word) → Spells w k → PointsSeen ws n m pts low
    → Seen (ws ++ (w ∷ [])) (pointed n m pts low k)
points_step ws n m pts low w (First i c) q s = tt
points_step ws n m pts low w (Point e) q s = go (leb low e && ltb (e + m) (2 ^ n)) refl
  where
    go : (b : Bool) → (leb low e && ltb (e + m) (2 ^ n)) ≡ b → Seen (ws ++ (w ∷ [])) (cond b (went n m (pts ++ (e ∷ [])) e) dead)
    go true h =
        let t = (and-eq-true_iff (leb low e) (ltb (e + m) (2 ^ n))).0 h in
        point_step ws n m pts low w e s q (leb-true low e t.0) (ltb-true (e + m) (2 ^ n) t.1)
    go false h = tt
points_step ws n m pts low w (Contact i j) q s = tt
points_step ws n m pts low w (Last c) q s = tt
points_step ws n m pts low w Other q s = tt

links_step : (ws : List ℕ) (n : ℕ) (pts ks : List ℕ) (low w : ℕ) (k : Word) → Spells w k → LinksSeen ws n pts ks low
    → Seen (ws ++ (w ∷ [])) (linked n pts ks low k)
unfolding before words_of
links_step ws n pts ks low w (First i c) q s = tt
links_step ws n pts ks low w (Point e) q s = tt
links_step ws n pts ks low w (Contact i j) q s = go (leb low key && (ltb i j && ltb j (length pts))) refl
  where
    key : ℕ
    key = i * 256 + j

    go : (b : Bool) → (leb low key && (ltb i j && ltb j (length pts))) ≡ b
        → Seen (ws ++ (w ∷ [])) (cond b (linking n pts (ks ++ (key ∷ [])) (suc key)) dead)
    go true h =
        let t = (and-eq-true_iff (leb low key) (ltb i j && ltb j (length pts))).0 h in
        let u = (and-eq-true_iff (ltb i j) (ltb j (length pts))).0 t.1 in
        let a : low ≤ key = leb-true low key t.0 in
        let b : i < j = ltb-true i j u.0 in
        let c : j < length pts = ltb-true j (length pts) u.1 in
        let f : j < 256 = q.1 in
        let d : key / 256 ≡ i = omega arith in
        let g : key % 256 ≡ j = omega arith in
        record {
          few = s.few;
          some = s.some;
          ascend = s.ascend;
          words = ap₂ (λ (x : List ℕ) (y : ℕ). x ++ (y ∷ [])) s.words q.0
              ∙ ap (λ (l : List ℕ). first_word n (length pts) ∷ l)
              (append_assoc (map point_word pts) (map contact_word ks) (contact_word key ∷ [])
              ∙ ap (λ (l : List ℕ). map point_word pts ++ l) (sym (map-append contact_word ks (key ∷ []))));
          rise = λ js r. subst (Rises 0 (length pts)) (sym (append_assoc ks (key ∷ []) js))
              (s.rise (key ∷ js) (a, omega arith, omega arith, r));
        }
    go false h = tt
links_step ws n pts ks low w (Last c) q s = go (eqb c (1 + (length pts + length ks))) refl
  where
    p : Plan
    p = record { names = n; points = pts; contacts = ks }

    same : ws ≡ before p
    same = s.words

    go : (b : Bool) → eqb c (1 + (length pts + length ks)) ≡ b → Seen (ws ++ (w ∷ [])) (cond b (whole p) dead)
    go true h = (
      record {
        few = s.few;
        some = s.some;
        ascend = s.ascend;
        rise = subst (Rises 0 (length pts)) (append-nil ks) (s.rise [] tt);
      },
      spelt (eqb-true c (1 + (length pts + length ks)) h),
    )
      where
        spelt : c ≡ 1 + (length pts + length ks) → ws ++ (w ∷ []) ≡ words_of p
        spelt e = ap₂ (λ (x : List ℕ) (y : ℕ). x ++ (y ∷ [])) same (q ∙ ap last_word (e ∙ sym (before_length p)))
    go false h = tt
links_step ws n pts ks low w Other q s = tt

seen_step : (ws : List ℕ) (s : State) (w : ℕ) → Seen ws s → Seen (ws ++ (w ∷ [])) (step s (kind_of w))
seen_step ws start w h = subst (λ (l : List ℕ). Seen (l ++ (w ∷ [])) (opened (kind_of w))) (sym h)
    (open_step w (kind_of w) (spells w))
seen_step ws (pointing n m pts low) w h = points_step ws n m pts low w (kind_of w) (spells w) h
seen_step ws (linking n pts ks low) w h = links_step ws n pts ks low w (kind_of w) (spells w) h
seen_step ws (whole p) w h = tt
seen_step ws dead w h = tt

seen_run : (done : List ℕ) (s : State) (ws : List ℕ) → Seen done s → Seen (done ++ ws) (run s ws)
unfolding run
seen_run done s [] h = subst (λ (l : List ℕ). Seen l s) (sym (append-nil done)) h
seen_run done s (w ∷ ws) h =
    subst (λ (l : List ℕ). Seen l (run (step s (kind_of w)) ws)) (append_assoc done (w ∷ []) ws)
    (seen_run (done ++ (w ∷ [])) (step s (kind_of w)) ws (seen_step done s w h))

pub seen : (ws : List ℕ) → Seen ws (run start ws)
seen ws = seen_run [] start ws refl
