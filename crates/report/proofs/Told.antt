-- What explain wrote is the tree of the writer, so that its lines with the depths that were put are the text of the rules; where it wrote none a
-- plan exists, because a rule stands and the words are enough. Before it, the texts of atoms that an array holds. Assumes nothing.
use Prim.Native.Nat.{ℕ, zero, suc, ◌+◌, ◌^◌, ◌≤◌, ◌<◌}
use mathlib.Core.Path.{◌≡◌, refl, sym, ap, subst, ◌∙◌, fun_ext}
use mathlib.Core.Bool.{Bool, cond}
use mathlib.Core.Logic.{⊎_elim}
use mathlib.Core.List.{List, [], ◌∷◌, map, append-nil}
use native.Mathlib.Omega.{arith}
use lib.Pow.{pow_mono}
use lib.ListN.{length, get_or, take, drop, length-append, get_or-eq_default}
use lib.Seq.{take-append_seam}
use borrow.Author.Tests.{le-ltb, le-leb}
use types.Run.{OneOf, miss}
use denote.Enum.Declared.{tag_of}
use Rattle.formula.specs.Formula.{Form, Formula, Name}
use Rattle.lexer.specs.Text.{bytes}
use Rattle.lists.specs.Search.{below, from}
use Rattle.lists.proofs.Truth.{side}
use Rattle.lists.specs.Buffer.{over}
use Rattle.lists.proofs.Buffer.{written_over}
use Rattle.contact.specs.Numbering.{different_atoms, numbered_atoms}
use Rattle.printing.specs.Text.{text_of}
use Rattle.ruleset.specs.Places.{atom_at}
use Rattle.trees.specs.Trees.{Tree, words_of}
use Rattle.trees.specs.Closed.{root}
use Rattle.trees.specs.OfRules.{NoPlanFor, IsWrittenTree}
use Rattle.trees.specs.Checker.{trees_of}
use Rattle.trees.proofs.OfRules.{Writes, writes, written_few}
use Rattle.table.specs.declared.Table.{Table}
use Rattle.table.specs.declared.ExplainAnswer.{ExplainAnswer}
use Rattle.table.specs.declared.ExplainResult.{ExplainResult}
use Rattle.table.specs.contracts.ExplainAnswer.{the_type}
use Rattle.table.specs.Store.{rules_of}
use Rattle.table.specs.Calls.{formulas_of, atoms_in, FromUs}
use Rattle.table.specs.Rows.{SomeStand}
use Rattle.table.specs.AtomText.{atom_text_of}
use Rattle.table.specs.Explaining.{told_answer, told_words, explained, Explains, kept_text, texts_of}
use Rattle.table.proofs.Rules.{can_atoms}
use Rattle.table.proofs.TreeRows.{told_some, words_some, few_for}
use Rattle.table.specs.declared.AtomText.{AtomText}
use Rattle.report.specs.Lines.{ended, reason_lines}
use Rattle.report.specs.Output.{trees_text, reasons_text}
use Rattle.report.specs.Pieces.{held, held_at, line_at, lines_from, depths_of, Shallow, DepthsSay}
use Rattle.report.specs.Lent.{lent_words, Lends}
use Rattle.report.specs.declared.TextAnswer.TheVariants as TextAnswer
use Rattle.report.proofs.Lent.{lends_lines}
use Rattle.report.proofs.Reasons.{tree_lines, written_shallow}

-- ---- the texts of atoms

-- past the array there is none
held_past : (atoms : List AtomText) (j : ℕ) → length atoms ≤ j → held_at atoms j ≡ []
unfolding held held_at
held_past atoms j h = ap held (get_or-eq_default atoms (record { bytes = []; len = 0 }) h)

held_kept : (xs : List ℕ) → held (kept_text xs) ≡ xs
unfolding held kept_text over
held_kept xs = take-append_seam xs _

numbered : {A : Type 0} (f : ℕ → A) (d : A) (k n j : ℕ) → j < n → get_or (map f (from k n)) j d ≡ f (k + j)
numbered f d k zero j h = absurd (omega arith)
numbered f d k (suc n) zero h = let z : k ≡ k + 0 = omega arith in ap f z
numbered f d k (suc n) (suc j) h = let z : suc k + j ≡ k + suc j = omega arith in numbered f d (suc k) n j (omega arith) ∙ ap f z

module _ (atom : ℕ → List ℕ) where
  abbrev kept : ℕ → AtomText
  kept j = kept_text (atom j)

  -- the texts are what the array holds, where there is none past it
  held_texts : ((j : ℕ) → 16 ≤ j → atom j ≡ []) → held_at (texts_of atom) ≡ atom
  unfolding held_at texts_of
  held_texts none =
      fun_ext
      (λ j. ⊎_elim
      (λ l. ap held (numbered kept (record { bytes = []; len = 0 }) 0 16 j l) ∙ ap (λ (x : ℕ). held (kept x)) (let z : 0 + j ≡ j = omega arith in z) ∙ held_kept (atom j))
      (λ l. held_past (map kept (below 16)) j l ∙ sym (none j l))
      (side j 16))

-- at most 16 atoms stand
pub few_atoms : (t : Table) → FromUs t → length (different_atoms (formulas_of (rules_of t))) ≤ 16
unfolding atoms_in
few_atoms t h = can_atoms (rules_of t) h.standing

held_atoms : (t : Table) → FromUs t → held_at (texts_of (atom_text_of (formulas_of (rules_of t)))) ≡ atom_text_of (formulas_of (rules_of t))
unfolding atom_text_of
held_atoms t h =
    let ats = different_atoms (formulas_of (rules_of t)) in
    held_texts (atom_text_of (formulas_of (rules_of t)))
    (λ j l. ap (λ (b : Bool). cond b (text_of (Form.atom (atom_at ats j))) []) (le-ltb j (length ats) (omega (arith, l, few_atoms t h))))

-- ---- the tree

-- a case that is another than the first is no tree
pub told_no_tree : (a : ExplainAnswer) → OneOf (1 ∷ 2 ∷ 3 ∷ []) (tag_of the_type a) → (n : ℕ) → a ≡ ExplainAnswer.Tree n → ⊥
told_no_tree a h n e = miss (1 ∷ 2 ∷ 3 ∷ []) 0 tt (subst (λ (x : ExplainAnswer). OneOf (1 ∷ 2 ∷ 3 ∷ []) (tag_of the_type x)) e h)

-- explain was called where some rule stands, with room for every tree
pub record Explaining (t : Table) (buffer : List ℕ) (r : ExplainResult) (exit : List ℕ) : Type 0 where
  pub from_us : FromUs t
  pub some : SomeStand (rules_of t)
  pub room : length buffer ≡ 131071
  pub explains : Explains t buffer r exit

module _ {t : Table} {buffer : List ℕ} {r : ExplainResult} {exit : List ℕ} (h : Explaining t buffer r exit) where
  abbrev rules : List (Formula Name)
  rules = formulas_of (rules_of t)

  -- it wrote the writer's tree, or there is none
  data Told : Type 0 where
    tree : (u : Tree) → IsWrittenTree rules u → trees_of rules ≡ u ∷ [] → r.answer ≡ ExplainAnswer.Tree (length (words_of u)) → length (words_of u) ≤ 131071
        → exit ≡ over (words_of u) buffer → Told
    plan : trees_of rules ≡ [] → r.answer ≡ ExplainAnswer.HasPlan → Told

  answer_is : r.answer ≡ told_answer (trees_of rules) (length buffer)
  unfolding explained
  answer_is = ap (λ (x : ExplainResult). x.answer) h.explains.result ∙ told_some (rules_of t) h.some (length buffer)

  words_are : exit ≡ told_words (trees_of rules) buffer
  words_are = h.explains.words ∙ words_some (rules_of t) h.some buffer

  which : Told
  which = go (writes rules)
    where
      go : Writes rules → Told
      go (Writes.told u w e none) =
          let few : 2 ^ length (different_atoms rules) ≤ 2 ^ 16 = pow_mono {i = length (different_atoms rules)} {j = 16} (few_atoms t h.from_us) in
          let size : length (words_of u) ≤ 131071 = omega (arith, written_few rules u w, few) in
          let room = le-leb (length (words_of u)) (length buffer) (omega (arith, size, h.room)) in
          Told.tree u w e
          (answer_is ∙ ap (λ (us : List Tree). told_answer us (length buffer)) e ∙ ap (λ (b : Bool). cond b (ExplainAnswer.Tree (length (words_of u))) (ExplainAnswer.ShortBuffer (length (words_of u)))) room)
          size
          (words_are ∙ ap (λ (us : List Tree). told_words us buffer) e ∙ ap (λ (b : Bool). cond b (over (words_of u) buffer) buffer) room)
      go (Writes.exists row found e) = Told.plan e (answer_is ∙ ap (λ (us : List Tree). told_answer us (length buffer)) e)

  -- where it told of none there is none, and the words are as they were
  pub no_trees : ((n : ℕ) → r.answer ≡ ExplainAnswer.Tree n → ⊥) → (trees_of rules ≡ []) × (exit ≡ buffer)
  no_trees other = go which
    where
      go : Told → (trees_of rules ≡ []) × (exit ≡ buffer)
      go (Told.tree u w e a s x) = absurd (other (length (words_of u)) a)
      go (Told.plan e a) = (e, words_are ∙ ap (λ (us : List Tree). told_words us buffer) e)

  pub no_tree_text : ((n : ℕ) → r.answer ≡ ExplainAnswer.Tree n → ⊥) → ended (bytes "PLAN EXISTS") ≡ reasons_text rules
  unfolding reasons_text
  no_tree_text other = sym (ap (trees_text (atom_text_of rules)) (no_trees other).0)

  -- where it is told there is one
  pub record ToldTree (n : ℕ) : Type 0 where
    pub tree : Tree
    pub written : IsWrittenTree rules tree
    pub only : trees_of rules ≡ tree ∷ []
    pub size : n ≡ length (words_of tree)
    pub room : n ≤ 131071
    pub words : exit ≡ over (words_of tree) buffer
    pub first : take n exit ≡ words_of tree
    pub within : n ≤ length exit
    pub counted : n ≡ length (take n exit)

  pub tree_told : (n : ℕ) → r.answer ≡ ExplainAnswer.Tree n → ToldTree n
  unfolding over
  tree_told n q = go which
    where
      go : Told → ToldTree n
      go (Told.plan e a) = absurd (let z : ExplainAnswer.HasPlan ≡ ExplainAnswer.Tree n = sym a ∙ q in let y : ◌≡◌ {A = ℕ} 0 1 = cc in omega arith)
      go (Told.tree u w e a s x) =
          let size : n ≡ length (words_of u) = cc in
          let first : take n exit ≡ words_of u
          = ap (take n) x ∙ ap (λ (k : ℕ). take k (over (words_of u) buffer)) size ∙ take-append_seam (words_of u) _ in
          record {
            tree = u;
            written = w;
            only = e;
            size = size;
            room = omega (arith, size);
            words = x;
            first = first;
            counted = size ∙ sym (ap length first);
            within = omega (arith, size, ap length x, length-append (words_of u) (drop (length (words_of u)) buffer));
          }

  shallow : {n : ℕ} (it : ToldTree n) → Shallow 0 it.tree
  shallow it =
      written_shallow (length (different_atoms rules)) (numbered_atoms rules) (NoPlanFor rules) (few_atoms t h.from_us) (few_for (rules_of t) h.from_us.standing).rules
      it.tree 0 root it.written

  -- its words and depths are lent, and the lines are the text
  module _ (n : ℕ) (q : r.answer ≡ ExplainAnswer.Tree n) where
    abbrev it : ToldTree n
    it = tree_told n q

    pub tree_lent : {text out : List ℕ} → Lends text (map words_of (trees_of rules)) buffer exit out out (TextAnswer.Lines n)
    tree_lent = lends_lines (words_of it.tree) (ap (map words_of) it.only) it.size it.words refl

    module _ (depths after : List ℕ) (end : ℕ) (says : DepthsSay (take n exit) 0 0 depths after end) where
      put : after ≡ over (depths_of 0 it.tree) depths
      unfolding DepthsSay
      put =
          (says it.tree [] (it.first ∙ sym (append-nil (words_of it.tree))) (shallow it)).bytes
          ∙ written_over (depths_of 0 it.tree) depths

      pub tree_depths : after ≡ lent_words (map (depths_of 0) (trees_of rules)) depths
      tree_depths = put ∙ sym (ap (λ (us : List Tree). lent_words (map (depths_of 0) us) depths) it.only)

      pub tree_text : (atoms : List AtomText) → atoms ≡ texts_of (atom_text_of rules) → lines_from (line_at exit after atoms) 0 n ≡ reasons_text rules
      unfolding over reasons_text
      tree_text atoms same =
          ap (lines_from (line_at exit after atoms) 0) it.size
          ∙ tree_lines exit after atoms it.tree 0 0 _ _ it.words put (shallow it)
          ∙ ap (λ (atom : ℕ → List ℕ). reason_lines atom 0 it.tree) (ap held_at same ∙ held_atoms t h.from_us) ∙ sym (ap (trees_text (atom_text_of rules)) it.only)
