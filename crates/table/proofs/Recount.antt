-- What is known of a table's rules, found text by text: a part of a list that can stand can stand, so that each text is added to those before
-- it. Assumes nothing.
use Prim.Native.Nat.{ℕ, ◌+◌, ◌≤◌, ◌<◌}
use mathlib.Core.Path.{◌≡◌, sym, ap, subst, ◌∙◌}
use mathlib.Core.List.{List, [], ◌∷◌, ◌++◌}
use native.Mathlib.Omega.{arith}
use lib.ListN.{length, take, drop, get_or, take-append-drop}
use lib.Seq.{take_all, length-take-le}
use Rattle.lists.proofs.Lists.{take_next}
use Rattle.lists.proofs.Padded.{pad_within}
use Rattle.syntax.specs.Rule.{rule_of}
use Rattle.syntax.specs.declared.RuleAnswer.TheVariants as RuleAnswer
use Rattle.syntax.specs.declared.Rule.{Rule}
use Rattle.names.specs.Gather.{arrays_of, known_of, gathered, Gathers}
use Rattle.names.specs.declared.Names.{Names}
use Rattle.names.specs.declared.Gathered.{Gathered}
use Rattle.names.proofs.Claims.{may_gather, known_from}
use Rattle.ruleset.specs.declared.Known.{Known}
use Rattle.ruleset.specs.Texts.{NothingKnown}
use Rattle.table.specs.declared.AddAnswer.{AddAnswer}
use Rattle.table.specs.declared.Line.{Line}
use Rattle.table.specs.declared.Table.{Table}
use Rattle.table.specs.Store.{rules_of, kept_line, text_of}
use Rattle.table.specs.Sheet.{Text}
use Rattle.table.specs.Calls.{names_in, FromUs}
use Rattle.table.specs.Rules.{CanStand}
use Rattle.table.proofs.Rules.{can_names}
use Rattle.table.specs.Steps.{KnownTexts, Knowing, Tries}
use Rattle.table.proofs.Stored.{text_line}
use Rattle.table.proofs.Standing.{stand_first, stand_added, room}
use Rattle.table.proofs.Counting.{names_with, answer_is, known_next}
use Rattle.table.proofs.Lines.{none, count_is, line_is}

-- the loop's invariant: the first i texts are known
pub record KnownTo (t : Table) (k : Known) (kept : List ℕ) (i : ℕ) : Type 0 where
  pub within : i ≤ length (rules_of t)
  pub known : KnownTexts (take i (rules_of t)) k kept

pub known_none : (t : Table) (k : Known) (kept : List ℕ) → NothingKnown k → length kept ≡ 2048 → KnownTo t k kept 0
unfolding NothingKnown
known_none t k kept n w = record { within = omega arith; known = n kept w }

pub known_all : (t : Table) (k : Known) (kept : List ℕ) (i : ℕ) → FromUs t → KnownTo t k kept i → t.count ≤ i → KnownTexts (rules_of t) k kept
known_all t k kept i v p h =
    subst (λ (rs : List Text). KnownTexts rs k kept) (take_all i (rules_of t) (omega (arith, count_is t v))) p.known

-- the invariant of the loop for the names alone
pub record NamedTo (t : Table) (ns : Names) (i : ℕ) : Type 0 where
  pub within : i ≤ length (rules_of t)
  pub names : ns ≡ arrays_of (names_in (take i (rules_of t)))

pub named_none : (t : Table) (ns : Names) → ns ≡ arrays_of [] → NamedTo t ns 0
unfolding names_in
named_none t ns e = record { within = omega arith; names = e }

pub named_all : (t : Table) (ns : Names) (i : ℕ) → FromUs t → NamedTo t ns i → t.count ≤ i → ns ≡ arrays_of (names_in (rules_of t))
named_all t ns i v p h = p.names ∙ ap (λ (rs : List Text). arrays_of (names_in rs)) (take_all i (rules_of t) (omega (arith, count_is t v)))

-- the i-th line
module _ {t : Table} {i : ℕ} (v : FromUs t) (h : i < t.count) where
  abbrev line : Line
  line = get_or t.lines i none

  abbrev pub text : Text
  text = take line.len line.bytes

  pub text_is : text ≡ get_or (rules_of t) i []
  unfolding text_of
  text_is = ap text_of (line_is v h) ∙ text_line (get_or (rules_of t) i [])

  pub text_within : line.len ≤ length line.bytes
  unfolding kept_line
  text_within =
      let e = line_is v h in
      omega (arith, ap (λ (l : Line). l.len) e, ap (λ (l : Line). length l.bytes) e, pad_within 256 (get_or (rules_of t) i []))

  pub text_length : line.len ≡ length text
  text_length = sym (length-take-le _ _ text_within)

  pub first : take (i + 1) (rules_of t) ≡ take i (rules_of t) ++ text ∷ []
  first =
      take_next (rules_of t) i [] (omega (arith, count_is t v))
      ∙ ap (λ (s : Text). take i (rules_of t) ++ s ∷ []) (sym text_is)

  pub stands : CanStand (take i (rules_of t) ++ text ∷ [])
  stands = subst CanStand first (stand_first (take (i + 1) (rules_of t)) (drop (i + 1) (rules_of t)) (subst CanStand (sym (take-append-drop (i + 1) (rules_of t))) v.standing))

  pub text_read : (rule_of text).answer ≡ RuleAnswer.Formula
  text_read = (room (take i (rules_of t)) text (stand_added (take i (rules_of t)) text stands)).read

  first_stand : CanStand (take i (rules_of t))
  first_stand = stand_first (take i (rules_of t)) (text ∷ []) stands

  module _ (k : Known) (kept : List ℕ) (p : KnownTo t k kept i) where
    pub known_so_far : Knowing k kept
    known_so_far = record { rules = take i (rules_of t); standing = first_stand; known = p.known }

    -- it is added, since it stands
    pub known_more : (a : AddAnswer) (out : Known) (keptOut : List ℕ) → Tries k text kept a out keptOut → KnownTo t out keptOut (i + 1)
    known_more a out keptOut says =
        let rs = take i (rules_of t) in
        let e = answer_is k rs first_stand kept p.known text a out keptOut says ∙ stand_added rs text stands in
        record {
          within = omega (arith, count_is t v);
          known = subst (λ (l : List Text). KnownTexts l out keptOut) (sym first) (known_next k rs first_stand kept p.known text a out keptOut says e);
        }

  module _ (ns : Names) (p : NamedTo t ns i) where
    pub text_gathers : (rule : Rule) → rule ≡ rule_of text → Gathers text rule ns
    text_gathers rule e = may_gather text rule ns (names_in (take i (rules_of t))) e p.names (can_names (take i (rules_of t)) first_stand)

    pub named_more : (g : Gathered) → g ≡ gathered text (known_of ns) → NamedTo t g.names (i + 1)
    named_more g e =
        let rs = take i (rules_of t) in
        let r = room rs text (stand_added rs text stands) in
        record {
          within = omega (arith, count_is t v);
          names = ap (λ (x : Gathered). x.names) (e ∙ ap (gathered text) (known_from ns (names_in rs) p.names))
              ∙ names_with rs text (can_names rs first_stand) r.read r.names ∙ ap (λ (l : List Text). arrays_of (names_in l)) (sym first);
        }
