-- The refusals of a load have a number, a line and a place for which the number that is returned has room: a line is one of those of a file
-- of at most 8,192 bytes, and a place lies within a text of at most 256. Assumes nothing.
use mathlib.Core.Path.{◌≡◌, refl, ap, subst}
use mathlib.Core.Bool.{Bool, true, false, cond}
use mathlib.Core.List.{List, [], ◌∷◌, ◌++◌, map}
use Prim.Native.Nat.{ℕ, zero, suc, ◌+◌, ◌≤◌, ◌<◌}
use native.Mathlib.Omega.{arith}
use lib.Dec.{eqb}
use lib.ListN.{length, get_or, length-append, length-drop}
use Rattle.lexer.specs.Token.{Token, bytes_of}
use Rattle.lexer.specs.Cutting.{Cutting, tokens, refused, with_token, Every, Cut}
use Rattle.lexer.proofs.Pieces.{starts_fits}
use Rattle.lexer.specs.declared.LexError.{LexError}
use Rattle.formula.specs.Formula.{Name}
use Rattle.syntax.specs.Symbol.{symbol_of, symbol_names}
use Rattle.syntax.specs.RuleText.{Answers}
use Rattle.names.specs.Ninth.{NameAt, name_at, places_of}
use Rattle.table.specs.Sheet.{Text, lines_of, on_first}
use Rattle.table.specs.Rows.{AddRow, LoadRow}
use Rattle.table.specs.declared.Outcome.{Outcome}
use Rattle.drawing.specs.Drawing.{Small, Fits}

-- ---- places

-- every place of a cut is within the text
abbrev Place : ℕ → LexError → Type 0
Place n LexError.TooLong = Unit {0}
Place n LexError.NoToken = Unit {0}
Place n (LexError.ForeignByte i) = i ≤ n
Place n (LexError.LongName i) = i ≤ n
Place n (LexError.Measured i) = i ≤ n

abbrev Starts : ℕ → List Token → Type 0
Starts n ts = Every (λ (t : Token). t.start ≤ n) ts

abbrev Within : ℕ → Cutting → Type 0
Within n (tokens ts) = Starts n ts
Within n (refused a) = Place n a

with_token_lem : (n : ℕ) (t : Token) (r : Cutting) → t.start ≤ n → Within n r → Within n (with_token t r)
with_token_lem n t (tokens ts) h w = (h, w)
with_token_lem n t (refused a) h w = w

wider_place : (m n : ℕ) → m ≤ n → (a : LexError) → Place m a → Place n a
wider_place m n h LexError.TooLong w = w
wider_place m n h LexError.NoToken w = w
wider_place m n h (LexError.ForeignByte i) w = omega arith
wider_place m n h (LexError.LongName i) w = omega arith
wider_place m n h (LexError.Measured i) w = omega arith

wider_starts : (m n : ℕ) → m ≤ n → (ts : List Token) → Starts m ts → Starts n ts
wider_starts m n h [] w = tt
wider_starts m n h (t ∷ ts) w = (omega (arith, w.0), wider_starts m n h ts w.1)

wider : (m n : ℕ) → m ≤ n → (r : Cutting) → Within m r → Within n r
wider m n h (tokens ts) w = wider_starts m n h ts w
wider m n h (refused a) w = wider_place m n h a w

cut_within : {i : ℕ} {s : List ℕ} {r : Cutting} → Cut i s r → Within (i + length s) r
cut_within Cut.end = tt
cut_within (Cut.blank {i} {b} {s} {r} e c) = wider _ _ (omega arith) r (cut_within c)
cut_within (Cut.run {i} {w} {s} {t} {r} run h c) =
    with_token_lem _ _ r (omega arith) (wider _ _ (omega (arith, ap length run.split, length-append w s)) r (cut_within c))
cut_within (Cut.long_name {i} run h) = omega arith
cut_within (Cut.sign {i} {b} {s} {x} {k} {r} e l m c) =
    with_token_lem _ _ r (omega arith)
    (wider _ _ (omega (arith, length-drop (length x.bytes) (b ∷ s), starts_fits x.bytes (b ∷ s) l.1)) r (cut_within c))
cut_within (Cut.measured_sign {i} e l m) = omega arith
cut_within (Cut.no_sign {i} e l) = omega arith
cut_within (Cut.foreign {i} e) = omega arith

cut_from : {s : List ℕ} {r : Cutting} → Cut 0 s r → Within (length s) r
cut_from {s} {r} c = wider _ _ (omega arith) r (cut_within c)

-- the first byte of a token, or the text's length
start_within : (n : ℕ) (ts : List Token) → Starts n ts → (j d : ℕ) → d ≤ n → get_or (map (λ (t : Token). t.start) ts) j d ≤ n
start_within n [] w j d h = h
start_within n (t ∷ ts) w zero d h = w.0
start_within n (t ∷ ts) w (suc j) d h = start_within n ts w.1 j d h

-- a name's first byte
abbrev Places : ℕ → List NameAt → Type 0
Places n xs = Every (λ (x : NameAt). x.place ≤ n) xs

names_within : (n p : ℕ) → p ≤ n → (ws : List Name) (xs : List NameAt) → Places n xs → Places n (map (name_at p) ws ++ xs)
names_within n p h [] xs w = w
names_within n p h (v ∷ ws) xs w = (h, names_within n p h ws xs w)

places_within : (n : ℕ) (s : List ℕ) (ts : List Token) → Starts n ts → Places n (places_of s ts)
unfolding places_of
places_within n s [] w = tt
places_within n s (t ∷ ts) w = names_within n t.start w.0 (symbol_names (symbol_of t.kind (bytes_of s t))) (places_of s ts) (places_within n s ts w.1)

place_within : (n : ℕ) (before : List NameAt) (x : NameAt) (after : List NameAt) → Places n (before ++ x ∷ after) → x.place ≤ n
place_within n [] x after w = w.0
place_within n (b ∷ before) x after w = place_within n before x after w.1

-- ---- a refused text

add_small : {rs : List Text} {s : Text} {o : Outcome} → AddRow rs s o → (k p : ℕ) → o ≡ Outcome.Refused k p → (0 < k) × (k ≤ 15) × (p ≤ 256)
add_small {rs} {s} row k p e = go row e
  where
    done : {a b : ℕ} → Outcome.Refused a b ≡ Outcome.Refused k p → 0 < a → a ≤ 15 → b ≤ 256 → (0 < k) × (k ≤ 15) × (p ≤ 256)
    done {a} {b} f w x y = let u : a ≡ k = cc in let v : b ≡ p = cc in (omega arith, omega arith, omega arith)

    go : {o : Outcome} → AddRow rs s o → o ≡ Outcome.Refused k p → (0 < k) × (k ≤ 15) × (p ≤ 256)
    go (AddRow.long a) f = done f (omega arith) (omega arith) (omega arith)
    go (AddRow.blank a) f = done f (omega arith) (omega arith) (omega arith)
    go (AddRow.foreign (Answers.foreign_byte h c)) f = done f (omega arith) (omega arith) (omega (arith, cut_from c))
    go (AddRow.name_long (Answers.name_long h c)) f = done f (omega arith) (omega arith) (omega (arith, cut_from c))
    go (AddRow.measured (Answers.measured h c)) f = done f (omega arith) (omega arith) (omega (arith, cut_from c))
    go (AddRow.grammar (Answers.grammar {t} {ts} {j} h c r)) f =
        done f (omega arith) (omega arith) (omega (arith, start_within (length s) (t ∷ ts) (cut_from c) j (length s) (omega arith)))
    go (AddRow.full a h) f = done f (omega arith) (omega arith) (omega arith)
    go (AddRow.ninth {p = q} h are l at) f =
        done f (omega arith) (omega arith)
        (omega (
          arith,
          h.short,
          place_within (length s) at.before (name_at q at.name) at.after
              (subst (Places (length s)) at.split (places_within (length s) s h.cut_tokens (cut_from h.cut))),
        ))
    go (AddRow.many are l n m) f = done f (omega arith) (omega arith) (omega arith)
    go (AddRow.stands are l n m) f = absurd (let z : ◌≡◌ {A = ℕ} 0 1 = cc in omega arith)

-- ---- lines

-- a byte begins no line more than a byte 10 does
on_first_lem : (b : ℕ) (ls : List Text) (n : ℕ) → length ls ≤ n → 1 ≤ n → length (on_first b ls) ≤ n
unfolding on_first
on_first_lem b [] n h k = k
on_first_lem b (l ∷ ls) n h k = h

lines_few : (f : Text) → length (lines_of f) ≤ length f + 1
unfolding lines_of
lines_few [] = omega arith
lines_few (b ∷ s) = go (eqb b 10) (lines_few s)
  where
    go : (t : Bool) → length (lines_of s) ≤ length s + 1 → length (cond t ([] ∷ lines_of s) (on_first b (lines_of s))) ≤ length (b ∷ s) + 1
    go true few = omega (arith, few)
    go false few = on_first_lem b (lines_of s) _ (omega (arith, few)) (omega arith)

-- ---- a refused load

pub load_fits : (f : Text) (o : Outcome) → LoadRow f o → Fits o
unfolding Fits
load_fits f o row number line place e = go row e
  where
    done : {k l p : ℕ} → Outcome.RefusedLine k l p ≡ Outcome.RefusedLine number line place → Small k l p → Small number line place
    done {k} {l} {p} g small =
        let u : k ≡ number = cc in
        let v : l ≡ line = cc in
        let w : p ≡ place = cc in
        record {
          some = omega (arith, small.some);
          number_at_most = omega (arith, small.number_at_most);
          line_at_most = omega (arith, small.line_at_most);
          place_at_most = omega (arith, small.place_at_most);
        }

    go : {o : Outcome} → LoadRow f o → o ≡ Outcome.RefusedLine number line place → Small number line place
    go (LoadRow.long h) g = done g (record { some = omega arith; number_at_most = omega arith; line_at_most = omega arith; place_at_most = omega arith })
    go (LoadRow.blank h k) g = done g (record { some = omega arith; number_at_most = omega arith; line_at_most = omega arith; place_at_most = omega arith })
    go (LoadRow.line h r) g =
        let w = add_small r.row _ _ refl in
        done g
        (record {
          some = w.0;
          number_at_most = w.1;
          line_at_most = omega (arith, lines_few f, r.line_is, ap length r.split, length-append r.before (r.text ∷ r.later));
          place_at_most = w.2;
        })
    go (LoadRow.loads h some can) g = absurd (let z : ◌≡◌ {A = ℕ} 0 1 = cc in omega arith)
