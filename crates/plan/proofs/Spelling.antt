-- A word and what it says determine each other: the kind is a quotient, and the fields are what remains of it. Assumes nothing.
use mathlib.Core.Path.{◌≡◌, refl, sym, ap, ap₂, ◌∙◌}
use mathlib.Core.Bool.{Bool, true, false, ◌&&◌, cond, and-eq-true_iff}
use mathlib.Core.Logic.{⊎_elim}
use Prim.Native.Nat.{ℕ, ◌+◌, ◌*◌, ◌^◌, ◌/◌, ◌%◌, ◌≤◌, ◌<◌}
use native.Mathlib.Omega.{arith}
use lib.Dec.{eqb, leb}
use lib.Pow.{pow_mono}
use borrow.Author.Tests.{leb-true, le-leb, lt-leb, eqb-true, ne_eqb}
use Rattle.lists.proofs.Truth.{side}
use Rattle.evalset.specs.Most.{most}
use Rattle.plan.specs.declared.Word.{Word}
use Rattle.plan.specs.declared.Word.TheVariants.{First, Point, Contact, Last, Other}
use Rattle.plan.specs.Words.{short_first, long_first, first_word, point_word, contact_word, last_word}
use Rattle.plan.specs.Reader.{by_kind, kind_of}

-- ---- from the bits to the kind
module _ (w : ℕ) where
  pub is_first : w / 0x10000000 ≡ 1 → w % 0x10000000 ≤ 0x6FF → kind_of w ≡ First (w % 0x10000000 / 256) (w % 0x10000000 % 256)
  unfolding kind_of
  is_first k h = ap (λ (x : ℕ). by_kind x (w % 0x10000000)) k ∙ rw (le-leb (w % 0x10000000) 0x6FF h)

  pub no_first : w / 0x10000000 ≡ 1 → 0x6FF < w % 0x10000000 → kind_of w ≡ Other
  unfolding kind_of
  no_first k h = ap (λ (x : ℕ). by_kind x (w % 0x10000000)) k ∙ rw (lt-leb (w % 0x10000000) 0x6FF h)

  pub is_long : w / 0x10000000 ≡ 8 → 0x70000 ≤ w % 0x10000000 → w % 0x10000000 ≤ 0x8FFFF
      → kind_of w ≡ First (w % 0x10000000 / 65536) (w % 0x10000000 % 65536)
  unfolding kind_of
  is_long k h l = ap (λ (x : ℕ). by_kind x (w % 0x10000000)) k
      ∙ rw (le-leb 0x70000 (w % 0x10000000) h, le-leb (w % 0x10000000) 0x8FFFF l)

  pub low_long : w / 0x10000000 ≡ 8 → w % 0x10000000 < 0x70000 → kind_of w ≡ Other
  unfolding kind_of
  low_long k h = ap (λ (x : ℕ). by_kind x (w % 0x10000000)) k ∙ rw (lt-leb 0x70000 (w % 0x10000000) h)

  pub high_long : w / 0x10000000 ≡ 8 → 0x8FFFF < w % 0x10000000 → kind_of w ≡ Other
  unfolding kind_of
  high_long k h =
      let low : 0x70000 ≤ w % 0x10000000 = omega arith in
      ap (λ (x : ℕ). by_kind x (w % 0x10000000)) k
      ∙ rw (le-leb 0x70000 (w % 0x10000000) low, lt-leb (w % 0x10000000) 0x8FFFF h)

  pub is_point : w / 0x10000000 ≡ 2 → w % 0x10000000 ≤ 255 → kind_of w ≡ Point (w % 0x10000000)
  unfolding kind_of
  is_point k h = ap (λ (x : ℕ). by_kind x (w % 0x10000000)) k ∙ rw (le-leb (w % 0x10000000) 255 h)

  pub no_point : w / 0x10000000 ≡ 2 → 255 < w % 0x10000000 → kind_of w ≡ Other
  unfolding kind_of
  no_point k h = ap (λ (x : ℕ). by_kind x (w % 0x10000000)) k ∙ rw (lt-leb (w % 0x10000000) 255 h)

  pub is_contact : w / 0x10000000 ≡ 3 → w % 0x10000000 ≤ 65535 → kind_of w ≡ Contact (w % 0x10000000 / 256) (w % 0x10000000 % 256)
  unfolding kind_of
  is_contact k h = ap (λ (x : ℕ). by_kind x (w % 0x10000000)) k ∙ rw (le-leb (w % 0x10000000) 65535 h)

  pub no_contact : w / 0x10000000 ≡ 3 → 65535 < w % 0x10000000 → kind_of w ≡ Other
  unfolding kind_of
  no_contact k h = ap (λ (x : ℕ). by_kind x (w % 0x10000000)) k ∙ rw (lt-leb (w % 0x10000000) 65535 h)

  pub is_last : w / 0x10000000 ≡ 4 → kind_of w ≡ Last (w % 0x10000000)
  unfolding kind_of
  is_last k = ap (λ (x : ℕ). by_kind x (w % 0x10000000)) k

  pub no_kind : (w / 0x10000000 ≡ 1 → ⊥) → (w / 0x10000000 ≡ 2 → ⊥) → (w / 0x10000000 ≡ 3 → ⊥) → (w / 0x10000000 ≡ 4 → ⊥)
      → (w / 0x10000000 ≡ 8 → ⊥) → kind_of w ≡ Other
  unfolding kind_of
  no_kind a b c d e = simp (
    ne_eqb (w / 0x10000000) 1 a,
    ne_eqb (w / 0x10000000) 2 b,
    ne_eqb (w / 0x10000000) 3 c,
    ne_eqb (w / 0x10000000) 4 d,
    ne_eqb (w / 0x10000000) 8 e,
  )

-- ---- the words of a plan
pub short_is : (n c : ℕ) → n ≤ 6 → first_word n c ≡ short_first n c
short_is n c h = rw (le-leb n 6 h)

pub long_is : (n c : ℕ) → 6 < n → first_word n c ≡ long_first n c
long_is n c h = rw (lt-leb n 6 h)

pub first_kind : (n c : ℕ) → n ≤ most → c ≤ 2 ^ n → kind_of (first_word n c) ≡ First n c
first_kind n c few top = ⊎_elim long short (side 6 n)
  where
    short : n ≤ 6 → kind_of (first_word n c) ≡ First n c
    short h =
        let w = short_first n c in
        let small : c ≤ 64 = omega (arith, pow_mono h) in
        let r : w % 0x10000000 ≡ n * 256 + c = omega arith in
        let a : (n * 256 + c) / 256 ≡ n = omega arith in
        let b : (n * 256 + c) % 256 ≡ c = omega arith in
        ap kind_of (short_is n c h)
        ∙ is_first w (omega arith) (omega arith) ∙ ap₂ First (ap (λ (x : ℕ). x / 256) r ∙ a) (ap (λ (x : ℕ). x % 256) r ∙ b)

    long : 6 < n → kind_of (first_word n c) ≡ First n c
    long h =
        let w = long_first n c in
        let small : c ≤ 256 = omega (arith, pow_mono few) in
        let r : w % 0x10000000 ≡ n * 65536 + c = omega arith in
        let a : (n * 65536 + c) / 65536 ≡ n = omega arith in
        let b : (n * 65536 + c) % 65536 ≡ c = omega arith in
        ap kind_of (long_is n c h)
        ∙ is_long w (omega arith) (omega arith) (omega arith)
        ∙ ap₂ First (ap (λ (x : ℕ). x / 65536) r ∙ a) (ap (λ (x : ℕ). x % 65536) r ∙ b)

pub point_kind : (e : ℕ) → e < 256 → kind_of (point_word e) ≡ Point e
point_kind e h =
    let w = point_word e in
    let r : w % 0x10000000 ≡ e = omega arith in
    is_point w (omega arith) (omega arith) ∙ ap Point r

pub contact_kind : (k : ℕ) → k < 65536 → kind_of (contact_word k) ≡ Contact (k / 256) (k % 256)
contact_kind k h =
    let w = contact_word k in
    let r : w % 0x10000000 ≡ k = omega arith in
    is_contact w (omega arith) (omega arith) ∙ ap (λ (x : ℕ). Contact (x / 256) (x % 256)) r

pub last_kind : (n : ℕ) → n < 0x10000000 → kind_of (last_word n) ≡ Last n
last_kind n h =
    let w = last_word n in
    let r : w % 0x10000000 ≡ n = omega arith in
    is_last w (omega arith) ∙ ap Last r

-- ---- and back: what a word says is the word, where it has a kind
abbrev pub Spells : ℕ → Word → Type 0
Spells w (First n c) = w ≡ first_word n c
Spells w (Point e) = w ≡ point_word e
Spells w (Contact i j) = (w ≡ contact_word (i * 256 + j)) × (j < 256)
Spells w (Last c) = w ≡ last_word c
Spells w Other = Unit {0}

pub spells : (w : ℕ) → Spells w (kind_of w)
unfolding kind_of
spells w =
    one (eqb k 1) refl (leb b 0x6FF) refl
  where
    k : ℕ
    k = w / 0x10000000

    b : ℕ
    b = w % 0x10000000

    after_four : Word
    after_four = cond (eqb k 8) (cond (leb 0x70000 b && leb b 0x8FFFF) (First (b / 65536) (b % 65536)) Other) Other

    after_three : Word
    after_three = cond (eqb k 4) (Last b) after_four

    after_two : Word
    after_two = cond (eqb k 3) (cond (leb b 0xFFFF) (Contact (b / 256) (b % 256)) Other) after_three

    after_one : Word
    after_one = cond (eqb k 2) (cond (leb b 0xFF) (Point b) Other) after_two

    eight : (t : Bool) → eqb k 8 ≡ t → (u : Bool) → (leb 0x70000 b && leb b 0x8FFFF) ≡ u
        → Spells w (cond t (cond u (First (b / 65536) (b % 65536)) Other) Other)
    eight true e true f =
        let q : k ≡ 8 = eqb-true k 8 e in
        let z = (and-eq-true_iff (leb 0x70000 b) (leb b 0x8FFFF)).0 f in
        let low : 0x70000 ≤ b = leb-true 0x70000 b z.0 in
        let many : 6 < b / 65536 = omega arith in
        let is : w ≡ long_first (b / 65536) (b % 65536) = omega arith in
        is ∙ sym (long_is (b / 65536) (b % 65536) many)
    eight true e false f = tt
    eight false e u f = tt

    four : (t : Bool) → eqb k 4 ≡ t → Spells w (cond t (Last b) after_four)
    four true e = let q : k ≡ 4 = eqb-true k 4 e in omega arith
    four false e = eight (eqb k 8) refl (leb 0x70000 b && leb b 0x8FFFF) refl

    three : (t : Bool) → eqb k 3 ≡ t → (u : Bool) → Spells w (cond t (cond u (Contact (b / 256) (b % 256)) Other) after_three)
    three true e true = let q : k ≡ 3 = eqb-true k 3 e in (omega arith, omega arith)
    three true e false = tt
    three false e u = four (eqb k 4) refl

    two : (t : Bool) → eqb k 2 ≡ t → (u : Bool) → Spells w (cond t (cond u (Point b) Other) after_two)
    two true e true = let q : k ≡ 2 = eqb-true k 2 e in omega arith
    two true e false = tt
    two false e u = three (eqb k 3) refl (leb b 0xFFFF)

    one : (t : Bool) → eqb k 1 ≡ t → (u : Bool) → leb b 0x6FF ≡ u → Spells w (cond t (cond u (First (b / 256) (b % 256)) Other) after_one)
    one true e true f =
        let q : k ≡ 1 = eqb-true k 1 e in
        let top : b ≤ 0x6FF = leb-true b 0x6FF f in
        let few : b / 256 ≤ 6 = omega arith in
        let is : w ≡ short_first (b / 256) (b % 256) = omega arith in
        is ∙ sym (short_is (b / 256) (b % 256) few)
    one true e false f = tt
    one false e u f = two (eqb k 2) refl (leb b 0xFF)
