-- The bytes of a text are at least those of its tokens as they are printed, and its names are names: rule by rule of the cutting, since a
-- sign is spelled in no fewer bytes than it is printed with. So a rule is no shorter than what is printed for it. Assumes nothing.
use mathlib.Core.Path.{◌≡◌, refl, sym, ap, subst, ◌∙◌}
use mathlib.Core.Bool.{Bool, cond}
use mathlib.Core.Logic.{⊎_elim}
use mathlib.Core.List.{List, [], ◌∷◌}
use Prim.Native.Nat.{ℕ, ◌+◌, ◌≤◌, ◌<◌}
use native.Mathlib.Omega.{arith}
use borrow.Author.Rules.{rules}
use lib.Dec.{eqb}
use lib.ListN.{length, take, drop, length-append, length-drop}
use lib.Seq.{drop-drop, take-append_seam, drop-append_seam}
use Rattle.lists.specs.Search.{In}
use Rattle.lists.proofs.Truth.{cond_holds}
use Rattle.lists.proofs.Search.{none_in, in_one, in_either}
use Rattle.lexer.specs.Text.{byte}
use Rattle.lexer.specs.Token.{Token, token_of, bytes_of}
use Rattle.lexer.specs.Spelling.{Meaning, token, measured, Spelling, signs, run_kind, constant_kind}
use Rattle.lexer.specs.Cutting.{Cutting, tokens, with_token, Every, match, Longest, AllAlphanumeric, Cut, end, blank, run, long_name, sign, measured_sign, no_sign, foreign}
use Rattle.lexer.specs.Arrays.{code_of}
use Rattle.lexer.specs.declared.Kind.{Kind}
use Rattle.lexer.proofs.Longest.{every_at}
use Rattle.lexer.proofs.Pieces.{NoName, Shape, signs_shape, starts_fits}
use Rattle.lexer.proofs.Placement.{after_first, no_tokens}
use Rattle.formula.specs.Formula.{Formula, Name}
use Rattle.formula.specs.Names.{formula_names}
use Rattle.syntax.specs.Symbol.{Symbol, symbol_of, symbol_names}
use Rattle.syntax.specs.Postfix.{names_among}
use Rattle.syntax.specs.RuleText.{symbols_of, IsRule}
use Rattle.syntax.proofs.Claims as syntax
use Rattle.printing.specs.Tokens.{formula_sign, formula_tokens}
use Rattle.printing.specs.Text.{spelling, text_of}
use Rattle.printing.proofs.Named.{IsName, AreNames, names_of_lem}
use Rattle.printing.proofs.Sizes.{size, size_written, operand_size}
use Rattle.printing.proofs.Shorter.{formula_shorter}

-- ---- one token

-- of n bytes: it is printed with no more, and its name, if it is one, is a name
abbrev Fine : Symbol Name → ℕ → Type 0
Fine x n = (length (spelling x) ≤ n) × AreNames (symbol_names x)

-- the names of a token, if it is a name only where its bytes are one
fine_names : (k : Kind) (w : Name) → (k ≡ Kind.Name → IsName w) → AreNames (symbol_names (symbol_of k w))
fine_names k w h v i =
    ⊎_elim (λ n. subst IsName (sym (in_one (subst (In v) n.1 i))) (h n.0)) (λ n. none_in (subst (In v) n.1 i)) (names_of_lem k w)

-- a run
run_size : (w : Name) → 1 ≤ length w → length (spelling (symbol_of (run_kind w) w)) ≤ length w
unfolding constant_kind
run_size [] h = absurd (omega arith)
run_size (b ∷ []) h =
    pick (eqb b (byte "T")) Kind.Truth _ (omega arith) (pick (eqb b (byte "F")) Kind.Falsity _ (omega arith)
    (pick (eqb b (byte "C")) Kind.Contact _ (omega arith) (pick (eqb b (byte "0")) Kind.Zero _ (omega arith) (pick (eqb b (byte "1")) Kind.One Kind.Name (omega arith) (omega arith)))))
  where
    pick : (t : Bool) (k m : Kind) → length (spelling (symbol_of k (b ∷ []))) ≤ 1 → length (spelling (symbol_of m (b ∷ []))) ≤ 1 → length (spelling (symbol_of (cond t k m) (b ∷ []))) ≤ 1
    pick = cond_holds (λ (k : Kind). length (spelling (symbol_of k (b ∷ []))) ≤ 1)
run_size (b ∷ d ∷ w) h = omega arith

run_fine : (w : Name) → 1 ≤ length w → length w ≤ 16 → AllAlphanumeric w → Fine (symbol_of (run_kind w) w) (length w)
run_fine w a b c = (run_size w a, fine_names (run_kind w) w (λ e. record { some = a; short = b; letters = c; other = e }))

-- a sign
abbrev MeansWide : Meaning → ℕ → Type 0
MeansWide (token k) n = (w : Name) → length (spelling (symbol_of k w)) ≤ n
MeansWide measured n = Unit {0}

abbrev Wide : Spelling → Type 0
Wide x = MeansWide x.means (length x.bytes)

signs_wide : Every Wide signs
unfolding signs
signs_wide = search rules

sign_fine : (s : List ℕ) (x : Spelling) (k : Kind) (w : Name) → Longest signs s (match x) → x.means ≡ token k → Fine (symbol_of k w) (length x.bytes)
sign_fine s x k w h e =
    let no : code_of k < 18 = subst NoName e (every_at h.0 Shape signs_shape).2 in
    let m : MeansWide (token k) (length x.bytes) = subst (λ (a : Meaning). MeansWide a (length x.bytes)) e (every_at h.0 Wide signs_wide) in
    (m w, fine_names k w (λ f. absurd (omega (arith, no, ap code_of f))))

-- ---- all tokens

-- the tokens ts of a text, out of n bytes
abbrev pub Kept : List ℕ → List Token → ℕ → Type 0
Kept text ts n = (size (symbols_of text ts) ≤ n) × AreNames (names_among (symbols_of text ts))

-- a token of n bytes before tokens of m
joined : (text : List ℕ) (t : Token) (r : Cutting) (ts : List Token) (n m : ℕ) → Fine (symbol_of t.kind (bytes_of text t)) n → ((us : List Token) → r ≡ tokens us → Kept text us m)
    → with_token t r ≡ tokens ts → Kept text ts (n + m)
unfolding size names_among
joined text t r ts n m g h e =
    let f = after_first t r ts e in
    let k = h f.0 f.1 in
    subst (λ (us : List Token). Kept text us (n + m)) (sym f.2)
    (omega (arith, g.0, k.0), λ w i. ⊎_elim (g.1 w) (k.1 w) (in_either (symbol_names (symbol_of t.kind (bytes_of text t))) (names_among (symbols_of text f.0)) i))

more : (text : List ℕ) (ts : List Token) (n m : ℕ) → n ≤ m → Kept text ts n → Kept text ts m
more text ts n m h k = (omega (arith, k.0), k.1)

pub kept : {i : ℕ} {t : List ℕ} {r : Cutting} → Cut i t r → (text : List ℕ) → t ≡ drop i text → (ts : List Token) → r ≡ tokens ts → Kept text ts (length t)
unfolding size names_among
kept (end {i}) text e ts f = let g : [] ≡ ts = cc in subst (λ (us : List Token). Kept text us 0) g (omega arith, λ w i. none_in i)
kept (blank {i} {b} {s} {r} h c) text e ts f =
    more text ts (length s) (length (b ∷ s)) (omega arith) (kept c text (ap (drop 1) e ∙ drop-drop 1 i text) ts f)
kept (run {i} {w} {s} {t} {r} h l c) text e ts f =
    let q : take (length w) (drop i text) ≡ w = ap (take (length w)) (sym e ∙ h.split) ∙ take-append_seam w s in
    more text ts (length w + length s) (length t) (omega (arith, ap length h.split, length-append w s))
    (joined text (token_of (run_kind w) i (length w)) r ts (length w) (length s)
    (subst (λ (v : Name). Fine (symbol_of (run_kind w) v) (length w)) (sym q) (run_fine w h.some l h.all))
    (λ us g. kept c text (sym (drop-append_seam w s) ∙ ap (drop (length w)) (sym h.split ∙ e) ∙ drop-drop (length w) i text) us g) f)
kept (long_name {i} h l) text e ts f = absurd (no_tokens _ ts f)
kept (sign {i} {b} {s} {x} {k} {r} g h p c) text e ts f =
    more text ts (length x.bytes + length (drop (length x.bytes) (b ∷ s))) (length (b ∷ s)) (omega (arith, starts_fits x.bytes (b ∷ s) h.1, length-drop (length x.bytes) (b ∷ s)))
    (joined text (token_of k i (length x.bytes)) r ts (length x.bytes) (length (drop (length x.bytes) (b ∷ s)))
    (sign_fine (b ∷ s) x k _ h p)
    (λ us q. kept c text (ap (drop (length x.bytes)) e ∙ drop-drop (length x.bytes) i text) us q) f)
kept (measured_sign g h p) text e ts f = absurd (no_tokens _ ts f)
kept (no_sign g h) text e ts f = absurd (no_tokens _ ts f)
kept (foreign g) text e ts f = absurd (no_tokens _ ts f)

-- ---- a rule

module _ (s : List ℕ) (f : Formula Name) (h : IsRule s f) where
  -- its names are names
  pub rule_names : AreNames (formula_names f)
  rule_names = subst AreNames (syntax.token_names (symbols_of s h.cut_tokens) f h.derived) (kept h.cut s refl h.cut_tokens refl).1

  -- and the text of its formula is no longer than it is
  pub text_shorter : length (text_of f) ≤ length s
  unfolding text_of
  text_shorter =
      omega (arith, size_written (formula_tokens f), operand_size 0 (formula_sign f) (formula_tokens f), formula_shorter h.derived, (kept h.cut s refl h.cut_tokens refl).0)
