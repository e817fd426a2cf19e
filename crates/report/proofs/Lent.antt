-- What is lent with an answer: a text, or the words of one plan or tree. Assumes nothing.
use mathlib.Core.Path.{◌≡◌, sym, ap, ◌∙◌, subst}
use mathlib.Core.List.{List, [], ◌∷◌, map}
use Prim.Native.Nat.{ℕ, ◌≤◌}
use native.Mathlib.Omega.{arith}
use lib.ListN.{length}
use Rattle.formula.specs.Formula.{Name}
use Rattle.contact.specs.Question.{Question}
use Rattle.lists.specs.Buffer.{over}
use Rattle.names.specs.Gather.{arrays_of, known_of}
use Rattle.plan.specs.Words.{Plan, words_of as planWords}
use Rattle.trees.specs.Trees.{Tree, words_of}
use Rattle.report.specs.declared.Piece.{Piece}
use Rattle.report.specs.declared.PlanResult.{PlanResult}
use Rattle.report.specs.declared.WhyResult.{WhyResult}
use Rattle.report.specs.declared.TextAnswer.TheVariants as TextAnswer
use Rattle.report.specs.Pieces.{plan_line_at, depths_of, Answers, GivesPiece}
use Rattle.table.specs.Explaining.{texts_of}
use Rattle.report.specs.Lent.{lent_answer, lent_words, lent_bytes, Lends, Tells, Whys}
use Rattle.report.specs.Putting.{text_room, Reports}
use Rattle.report.proofs.Pieces.{answered_lines, one_piece}

module _ {text : List ℕ} {given : List (List ℕ)} {words words-exit buffer exit : List ℕ} {n : ℕ} where
  -- there are no words, and the text is put
  pub lends_text : given ≡ [] → words-exit ≡ words → Reports text buffer n exit → Lends text given words words-exit buffer exit (TextAnswer.Text n)
  lends_text e same h =
      record {
        answered = ap TextAnswer.Text h.counted ∙ sym (ap (lent_answer text) e);
        words_are = same ∙ sym (ap (λ (g : List (List ℕ)). lent_words g words) e);
        bytes_are = h.bytes ∙ sym (ap (λ (g : List (List ℕ)). lent_bytes text g buffer) e);
      }

  -- there are words, and they are written
  pub lends_lines : (ws : List ℕ) → given ≡ ws ∷ [] → n ≡ length ws → words-exit ≡ over ws words → exit ≡ buffer → Lends text given words words-exit buffer exit (TextAnswer.Lines n)
  lends_lines ws e size written same =
      record {
        answered = ap TextAnswer.Lines size ∙ sym (ap (lent_answer text) e);
        words_are = written ∙ sym (ap (λ (g : List (List ℕ)). lent_words g words) e);
        bytes_are = same ∙ sym (ap (λ (g : List (List ℕ)). lent_bytes text g buffer) e);
      }

-- ---- a plan

module _ {q : Question} {text : List ℕ} {plans : List Plan} {names : List Name} {words buffer : List ℕ} {r : PlanResult} {words-exit exit : List ℕ} where
  -- the same, said in other words
  pub tells_other : {text₂ : List ℕ} {plans₂ : List Plan} {names₂ : List Name} → text ≡ text₂ → plans ≡ plans₂ → names ≡ names₂
      → Tells q text plans names words buffer r words-exit exit → Tells q text₂ plans₂ names₂ words buffer r words-exit exit
  tells_other {text₂} {plans₂} {names₂} e f g h =
      subst (λ (l : List ℕ). Tells q l plans₂ names₂ words buffer r words-exit exit) e
      (subst (λ (l : List Plan). Tells q text l names₂ words buffer r words-exit exit) f
      (subst (λ (l : List Name). Tells q text plans l words buffer r words-exit exit) g h))

  -- lines that have room in one piece are given by it
  pub told_whole : {n : ℕ} {piece : Piece} {last : List ℕ} → Tells q text plans names words buffer r words-exit exit → text_room q ≤ 15360 → r.answer ≡ TextAnswer.Lines n
      → GivesPiece (plan_line_at (known_of r.names) words-exit) n 0 exit piece last → Reports text buffer piece.len last
  told_whole {n} {piece} {last} tells small e g =
      let w = answered_lines r.answer tells.answers n e in
      subst (λ (l : List ℕ). Reports text l piece.len last) w.1
      (subst (λ (l : List ℕ). Reports l exit piece.len last) w.0 (one_piece _ g (omega (arith, small, tells.room n e, ap length w.0))))

-- a text that is put, where there is no plan
pub tells_short : {q : Question} {text : List ℕ} {plans : List Plan} {names : List Name} {words words-exit buffer exit : List ℕ} {n : ℕ} {r : PlanResult}
    → r.answer ≡ TextAnswer.Text n → plans ≡ [] → r.names ≡ arrays_of names → words-exit ≡ words → Reports text buffer n exit → Tells q text plans names words buffer r words-exit exit
tells_short {q} {text} {plans} {names} {words} {words-exit} {buffer} {exit} {n} {r} a e f same h =
    record {
      lends = subst (Lends text _ words words-exit buffer exit) (sym a) (lends_text (ap (map planWords) e) same h);
      names_are = f;
      answers = subst (Answers text _ buffer exit) (sym a) (Answers.short h);
      room = λ k b. absurd (let y : TextAnswer.Text n ≡ TextAnswer.Lines k = sym a ∙ b in let z : ◌≡◌ {A = ℕ} 0 1 = cc in omega arith);
    }

-- ---- a tree

module _ {words depths buffer : List ℕ} {r : WhyResult} {words-exit depths-exit exit : List ℕ} where
  pub whys_other : {text text₂ : List ℕ} {trees trees₂ : List Tree} {atom atom₂ : ℕ → List ℕ} → text ≡ text₂ → trees ≡ trees₂ → atom ≡ atom₂
      → Whys text trees atom words depths buffer r words-exit depths-exit exit → Whys text₂ trees₂ atom₂ words depths buffer r words-exit depths-exit exit
  whys_other {text} {text₂} {trees} {trees₂} {atom} {atom₂} e f g h =
      subst (λ (l : List ℕ). Whys l trees₂ atom₂ words depths buffer r words-exit depths-exit exit) e
      (subst (λ (l : List Tree). Whys text l atom₂ words depths buffer r words-exit depths-exit exit) f
      (subst (λ (a : ℕ → List ℕ). Whys text trees a words depths buffer r words-exit depths-exit exit) g h))

-- a text that is put, where there is no tree
pub whys_short : {text : List ℕ} {trees : List Tree} {atom : ℕ → List ℕ} {words words-exit depths buffer exit : List ℕ} {n : ℕ} {r : WhyResult}
    → r.answer ≡ TextAnswer.Text n → trees ≡ [] → r.atoms ≡ texts_of atom → words-exit ≡ words → Reports text buffer n exit
    → Whys text trees atom words depths buffer r words-exit depths exit
whys_short {text} {trees} {atom} {words} {words-exit} {depths} {buffer} {exit} {n} {r} a e f same h =
    record {
      lends = subst (Lends text _ words words-exit buffer exit) (sym a) (lends_text (ap (map words_of) e) same h);
      depths_are = sym (ap (λ (ts : List Tree). lent_words (map (depths_of 0) ts) depths) e);
      atoms_are = f;
      answers = subst (Answers text _ buffer exit) (sym a) (Answers.short h);
    }
