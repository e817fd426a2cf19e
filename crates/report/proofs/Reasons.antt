-- Word by word the lines of a tree are its lines, where each word has its depth, and the trees of the writer are shallow. Assumes nothing.
use mathlib.Core.Path.{◌≡◌, refl, sym, ap, ap₂, ◌∙◌, subst}
use mathlib.Core.Bool.{Bool, true, false, cond}
use mathlib.Core.List.{List, [], ◌∷◌, ◌++◌, append-nil, append_assoc, nil≢cons}
use Prim.Native.Nat.{ℕ, suc, ◌+◌, ◌*◌, ◌/◌, ◌%◌, ◌≤◌, ◌<◌}
use native.Mathlib.Omega.{arith}
use lib.ListN.{length, get_or, drop, set, length-append, drop_of_length-le}
use borrow.Author.Tests.{ne_eqb}
use Rattle.formula.specs.Formula.{Form}
use Rattle.lexer.specs.Text.{bytes}
use Rattle.lists.proofs.Below.{collect_small}
use Rattle.lists.specs.Putting.{Puts}
use Rattle.lists.proofs.Putting.{puts_none, puts_byte, puts_more}
use Rattle.contact.specs.Row.{PartialRow}
use Rattle.trees.specs.Trees.{Tree, split, rule, floorless, missing, split_word, rule_word, floorless_word, words_of}
use Rattle.trees.specs.Closed.{decided}
use Rattle.trees.specs.Written.{Written}
use Rattle.table.specs.declared.AtomText.{AtomText}
use Rattle.report.specs.Lines.{margin, indented, split_text, rule_text, floorless_text, reason_lines}
use Rattle.report.specs.Pieces.{word_text, saying, held_at, line_at, lines_from, depths_of, Shallow, DepthsSay}
use Rattle.report.proofs.Pieces.{first_there, behind_it, behind_part, lines_more}

-- ---- words

pub margin_few : (depth : ℕ) → length (margin depth) ≤ depth * 2
unfolding margin
margin_few depth = collect_small (λ level. bytes "  ") 2 (λ level. omega arith) 0 depth

pub says_split : (atom : ℕ → List ℕ) (kind body : ℕ) → kind ≡ 5 → split_text (atom body) ≡ word_text atom kind body
says_split atom kind body e = sym (ap (λ (k : ℕ). word_text atom k body) e)

pub says_rule : (atom : ℕ → List ℕ) (kind body : ℕ) → kind ≡ 6 → rule_text body ≡ word_text atom kind body
says_rule atom kind body e = sym (ap (λ (k : ℕ). word_text atom k body) e)

pub says_floorless : (atom : ℕ → List ℕ) (kind body : ℕ) → (kind ≡ 5 → ⊥) → (kind ≡ 6 → ⊥) → floorless_text ≡ word_text atom kind body
says_floorless atom kind body a b =
    sym (ap₂ (λ (x y : Bool). cond x (split_text (atom body)) (cond y (rule_text body) floorless_text)) (ne_eqb kind 5 a) (ne_eqb kind 6 b))

-- the kind and the rest of a word
split_kind : (a : ℕ) → a < 256 → split_word a / 0x10000000 ≡ 5
split_kind a h = omega arith

rule_kind : (k : ℕ) → k < 256 → rule_word k / 0x10000000 ≡ 6
rule_kind k h = omega arith

saying_split : (atom : ℕ → List ℕ) (a : ℕ) → a < 256 → saying atom (split_word a) ≡ split_text (atom a)
unfolding saying
saying_split atom a h =
    let rest : split_word a % 0x10000000 ≡ a = omega arith in
    ap₂ (word_text atom) (split_kind a h) rest

saying_rule : (atom : ℕ → List ℕ) (k : ℕ) → k < 256 → saying atom (rule_word k) ≡ rule_text k
unfolding saying
saying_rule atom k h =
    let rest : rule_word k % 0x10000000 ≡ k = omega arith in
    ap₂ (word_text atom) (rule_kind k h) rest

saying_floorless : (atom : ℕ → List ℕ) → saying atom floorless_word ≡ floorless_text
unfolding saying
saying_floorless atom = refl

depths_long : (t : Tree) (d : ℕ) → length (depths_of d t) ≡ length (words_of t)
depths_long (split a t f) d =
    omega (
      arith,
      length-append (depths_of (suc d) t) (depths_of (suc d) f),
      length-append (words_of t) (words_of f),
      depths_long t (suc d),
      depths_long f (suc d),
    )
depths_long (rule k) d = refl
depths_long floorless d = refl
depths_long missing d = refl

-- ---- lines

-- the line of a word and its depth
pub line_is : (words depths : List ℕ) (atoms : List AtomText) (i w d : ℕ) → w ≡ get_or words i 0 → d ≡ get_or depths i 0
    → indented d (saying (held_at atoms) w) ≡ line_at words depths atoms i
unfolding line_at
line_is words depths atoms i w d = ap₂ (λ (x y : ℕ). indented y (saying (held_at atoms) x))

module _ (words depths : List ℕ) (atoms : List AtomText) where
  abbrev lines : ℕ → ℕ → List ℕ
  lines at n = lines_from (line_at words depths atoms) at n

  -- the line of a word that is there with its depth
  line_there : {w d : ℕ} {ws ds text : List ℕ} (at : ℕ) → drop at words ≡ w ∷ ws → drop at depths ≡ d ∷ ds → saying (held_at atoms) w ≡ text
      → line_at words depths atoms at ≡ indented d text
  unfolding line_at
  line_there at e f s =
      ap₂ (λ (d w : ℕ). indented d (saying (held_at atoms) w)) (first_there depths at f) (first_there words at e) ∙ ap (indented _) s

  one_line : {w d : ℕ} {ws ds text : List ℕ} (at : ℕ) → drop at words ≡ w ∷ ws → drop at depths ≡ d ∷ ds → saying (held_at atoms) w ≡ text
      → lines at 1 ≡ indented d text
  unfolding lines_from
  one_line at e f s = append-nil (line_at words depths atoms at) ∙ line_there at e f s

  pub tree_lines : (t : Tree) (at d : ℕ) (ws ds : List ℕ) → drop at words ≡ words_of t ++ ws → drop at depths ≡ depths_of d t ++ ds → Shallow d t
      → lines at (length (words_of t)) ≡ reason_lines (held_at atoms) d t
  unfolding lines_from
  tree_lines (split a t f) at d ws ds e g s =
      let m = length (words_of t) in
      let u = behind_it words at e in
      let v = behind_it depths at g in
      ap₂ (λ (x y : List ℕ). x ++ y) (line_there at e g (saying_split (held_at atoms) a s.1))
      (ap (lines (suc at)) (length-append (words_of t) (words_of f)) ∙ lines_more (line_at words depths atoms) (suc at) m (length (words_of f))
      ∙ ap₂ (λ (x y : List ℕ). x ++ y)
      (tree_lines t (suc at) (suc d) (words_of f ++ ws) (depths_of (suc d) f ++ ds) (u ∙ append_assoc (words_of t) (words_of f) ws) (v ∙ append_assoc (depths_of (suc d) t) (depths_of (suc d) f) ds) s.2)
      (tree_lines f (suc at + m) (suc d) ws ds (behind_part words (suc at) m (words_of t) (words_of f) ws u refl)
      (behind_part depths (suc at) m (depths_of (suc d) t) (depths_of (suc d) f) ds v (sym (depths_long t (suc d)))) s.3))
  tree_lines (rule k) at d ws ds e g s = one_line at e g (saying_rule (held_at atoms) k s)
  tree_lines floorless at d ws ds e g s = one_line at e g (saying_floorless (held_at atoms))
  tree_lines missing at d ws ds e g s = absurd s

-- ---- depths

module _ (words buffer : List ℕ) (at depth : ℕ) where
  -- past the words there is no tree
  pub none_there : (exit : List ℕ) (end : ℕ) → length words ≤ at → DepthsSay words at depth buffer exit end
  unfolding DepthsSay
  none_there exit end h t later e s = absurd (go t (sym (drop_of_length-le words h) ∙ e) s)
    where
      go : (t : Tree) → [] ≡ words_of t ++ later → Shallow depth t → ⊥
      go (split a t f) e s = nil≢cons e
      go (rule k) e s = nil≢cons e
      go floorless e s = nil≢cons e
      go missing e s = s

  module _ (h : at < length buffer) where
    here : Puts at (depth ∷ []) buffer (set buffer at depth) (at + 1)
    here = puts_byte (puts_none at buffer (omega arith)) depth (omega arith)

    next : at + 1 ≡ suc at
    next = omega arith

    deeper : depth + 1 ≡ suc depth
    deeper = omega arith

    -- a branch that is closed
    pub leaf_there : (get_or words at 0 / 0x10000000 ≡ 5 → depth < 16 → ⊥) → DepthsSay words at depth buffer (set buffer at depth) (at + 1)
    unfolding DepthsSay
    leaf_there other t later e s = go t e s
      where
        go : (t : Tree) → drop at words ≡ words_of t ++ later → Shallow depth t → Puts at (depths_of depth t) buffer (set buffer at depth) (at + 1)
        go (split a t f) e s = absurd (other (ap (λ (w : ℕ). w / 0x10000000) (first_there words at e) ∙ split_kind a s.1) s.0)
        go (rule k) e s = here
        go floorless e s = here
        go missing e s = absurd s

    -- a split, and both of its branches
    pub both_there : (mid exit : List ℕ) (middle end : ℕ) → get_or words at 0 / 0x10000000 ≡ 5 → DepthsSay words (at + 1) (depth + 1) (set buffer at depth) mid middle
        → DepthsSay words middle (depth + 1) mid exit end → DepthsSay words at depth buffer exit end
    unfolding DepthsSay
    both_there mid exit middle end five one two t later e s = go t e s
      where
        first : DepthsSay words (suc at) (suc depth) (set buffer at depth) mid middle
        first = subst (λ (x : ℕ). DepthsSay words x (suc depth) (set buffer at depth) mid middle) next
            (subst (λ (x : ℕ). DepthsSay words (at + 1) x (set buffer at depth) mid middle) deeper one)

        second : DepthsSay words middle (suc depth) mid exit end
        second = subst (λ (x : ℕ). DepthsSay words middle x mid exit end) deeper two

        go : (t : Tree) → drop at words ≡ words_of t ++ later → Shallow depth t → Puts at (depths_of depth t) buffer exit end
        go (split a t f) e s =
            let u = behind_it words at e in
            let p = first t (words_of f ++ later) (u ∙ append_assoc (words_of t) (words_of f) later) s.2 in
            let z : middle ≡ suc at + length (words_of t) = omega (arith, p.place, depths_long t (suc depth)) in
            let q = second f later (ap (λ (m : ℕ). drop m words) z ∙ behind_part words (suc at) (length (words_of t)) (words_of t) (words_of f) later u refl) s.3 in
            puts_more (puts_more (subst (Puts at (depth ∷ []) buffer (set buffer at depth)) next here) p) q
        go (rule k) e s = absurd (omega (arith, five, ap (λ (w : ℕ). w / 0x10000000) (first_there words at e), rule_kind k s))
        go floorless e s = absurd (omega (arith, five, ap (λ (w : ℕ). w / 0x10000000) (first_there words at e)))
        go missing e s = absurd s

-- ---- the writer's trees

pub written_shallow : (many : ℕ) (rules : List (Form ℕ)) (NoPlan : PartialRow → Type 0) → many ≤ 16 → length rules < 256
    → (t : Tree) (n : ℕ) (part : PartialRow) → Written many rules NoPlan n part t → Shallow n t
written_shallow many rules NoPlan h k (split a t f) n part w = (
  omega (arith, w.0.named),
  omega (arith, w.0.next, w.0.named),
  written_shallow many rules NoPlan h k t (suc n) (decided part n true) w.1,
  written_shallow many rules NoPlan h k f (suc n) (decided part n false) w.2,
)
written_shallow many rules NoPlan h k (rule r) n part w = omega (arith, w.refuted.named)
written_shallow many rules NoPlan h k floorless n part w = tt
written_shallow many rules NoPlan h k missing n part w = absurd w
