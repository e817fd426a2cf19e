-- What is meant: document 02, T-06: "the rule .. is false there, undecided atoms read as unknown under Kleene's strong three-valued tables".
-- The tables, and what *strong* says of them with no table (`Strong`, `StrongPrefix`), which proofs/Claims.antt claims of each connective.
-- Assumes nothing.
use Rattle.std.specs.Prelude.{Bool, true, false, not, ◌≡◌, ◌↔◌, ℕ}
use Rattle.formula.specs.Formula.{Form}
use Rattle.contact.specs.Row.{Three, is, unknown}

-- ---- the tables

abbrev pub kleene_not : Three → Three
kleene_not (is b) = is (not b)
kleene_not unknown = unknown

abbrev pub kleene_and : Three → Three → Three
kleene_and (is true) t = t
kleene_and (is false) t = is false
kleene_and unknown (is true) = unknown
kleene_and unknown (is false) = is false
kleene_and unknown unknown = unknown

abbrev pub kleene_or : Three → Three → Three
kleene_or s t = kleene_not (kleene_and (kleene_not s) (kleene_not t))

abbrev pub kleene_iff : Three → Three → Three
kleene_iff (is true) t = t
kleene_iff (is false) t = kleene_not t
kleene_iff unknown t = unknown

-- the value of a formula whose atoms may be undecided
abbrev pub kleene_value : (ℕ → Three) → Form ℕ → Three
kleene_value r Form.truth = is true
kleene_value r Form.falsity = is false
kleene_value r (Form.atom i) = r i
kleene_value r (Form.negation f) = kleene_not (kleene_value r f)
kleene_value r (Form.conjunction f g) = kleene_and (kleene_value r f) (kleene_value r g)
kleene_value r (Form.disjunction f g) = kleene_or (kleene_value r f) (kleene_value r g)
kleene_value r (Form.implication f g) = kleene_or (kleene_not (kleene_value r f)) (kleene_value r g)
kleene_value r (Form.equivalence f g) = kleene_iff (kleene_value r f) (kleene_value r g)

-- ---- strong

-- b is a way to decide the value: any, where it is unknown
abbrev pub Fits : Three → Bool → Type 0
Fits (is c) b = c ≡ b
Fits unknown b = Unit {0}

-- where the operands have the values s and t, the value r of a connective, usually c, is b exactly if every way to decide them gives b
abbrev pub Strong : (Bool → Bool → Bool) → Three → Three → Three → Type 0
Strong c s t r = (b : Bool) → (r ≡ is b) ↔ ((x y : Bool) → Fits s x → Fits t y → c x y ≡ b)

-- the same of one operand
abbrev pub StrongPrefix : (Bool → Bool) → Three → Three → Type 0
StrongPrefix c s r = (b : Bool) → (r ≡ is b) ↔ ((x : Bool) → Fits s x → c x ≡ b)
