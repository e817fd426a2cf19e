-- Document 01's plan words and the places of refusal 13, one table that antt computes. Assumes nothing.
use mathlib.Core.Path.{◌≡◌, refl}
use mathlib.Core.List.{List, [], ◌∷◌, map}
use Prim.Native.Nat.{ℕ}
use Rattle.plan.specs.Words.{Plan}
use Rattle.plan.specs.Reader.{Reading, plan, refused, kind_of, read_from, read_of}
use Rattle.plan.specs.Private.{plan_of}

-- words and what they are read to
abbrev pub Example : Type 0
Example = List ℕ × Reading

abbrev pub P1 : Plan
P1 = plan_of 0 (0 ∷ []) []

abbrev pub P2 : Plan
P2 = plan_of 2 (1 ∷ 2 ∷ []) (1 ∷ [])

abbrev pub P3 : Plan
P3 = plan_of 2 (1 ∷ 2 ∷ []) []

abbrev pub examples : List Example
examples =
    -- P1, P2 and P3
    (0x10000001 ∷ 0x20000000 ∷ 0x40000002 ∷ [], plan P1)
    ∷ (0x10000202 ∷ 0x20000001 ∷ 0x20000002 ∷ 0x30000001 ∷ 0x40000004 ∷ [], plan P2)
    ∷ (0x10000202 ∷ 0x20000001 ∷ 0x20000002 ∷ 0x40000003 ∷ [], plan P3)
    -- "two points over two names cannot start at evaluation 3"; after evaluation 2 only 3 may follow
    ∷ (0x10000202 ∷ 0x20000003 ∷ [], refused 1)
    ∷ (0x10000202 ∷ 0x20000002 ∷ [], refused 2)
    ∷ (0x10000202 ∷ 0x20000002 ∷ 0x20000003 ∷ 0x40000003 ∷ [], plan (plan_of 2 (2 ∷ 3 ∷ []) []))
    ∷ (0x10000102 ∷ 0x20000001 ∷ [], refused 1)
    -- evaluations do not ascend, or are not below 2^names
    ∷ (0x10000202 ∷ 0x20000001 ∷ 0x20000001 ∷ [], refused 2)
    ∷ (0x10000201 ∷ 0x20000004 ∷ [], refused 1)
    -- the first word: seven names, no point, more than 2^names points, an unnamed bit, another kind
    ∷ (0x10000701 ∷ [], refused 0)
    ∷ (0x10000200 ∷ [], refused 0)
    ∷ (0x10000205 ∷ [], refused 0)
    ∷ (0x10000002 ∷ [], refused 0)
    ∷ (0x10010101 ∷ [], refused 0)
    ∷ (0x20000000 ∷ [], refused 0)
    ∷ (0x00000001 ∷ [], refused 0)
    -- seven and eight names: the first word is of kind 8, and the last evaluation is 255
    ∷ (0x80070001 ∷ 0x20000040 ∷ 0x40000002 ∷ [], plan (plan_of 7 (64 ∷ []) []))
    ∷ (0x80080002 ∷ 0x20000000 ∷ 0x200000FF ∷ 0x30000001 ∷ 0x40000004 ∷ [], plan (plan_of 8 (0 ∷ 255 ∷ []) (1 ∷ [])))
    ∷ (0x80070002 ∷ 0x2000007F ∷ [], refused 1)
    ∷ (0x80080100 ∷ 0x20000001 ∷ [], refused 1)
    ∷ (0x80080100 ∷ 0x20000000 ∷ [], refused 2)
    -- of kind 8: six names, none, nine, no point, more than 2^names points, an unnamed bit; of kind 1: eight names
    ∷ (0x80060001 ∷ [], refused 0)
    ∷ (0x80000001 ∷ [], refused 0)
    ∷ (0x80090001 ∷ [], refused 0)
    ∷ (0x80070000 ∷ [], refused 0)
    ∷ (0x80070081 ∷ [], refused 0)
    ∷ (0x80080101 ∷ [], refused 0)
    ∷ (0x80170001 ∷ [], refused 0)
    ∷ (0x10000801 ∷ [], refused 0)
    -- the last word: too early, a wrong count, a word after it, none; no words
    ∷ (0x10000202 ∷ 0x20000001 ∷ 0x40000002 ∷ [], refused 2)
    ∷ (0x10000202 ∷ 0x20000001 ∷ 0x20000002 ∷ 0x40000004 ∷ [], refused 3)
    ∷ (0x10000001 ∷ 0x20000000 ∷ 0x40000002 ∷ 0x40000003 ∷ [], refused 3)
    ∷ (0x10000202 ∷ 0x20000001 ∷ 0x20000002 ∷ [], refused 3)
    ∷ ([], refused 0)
    -- contacts: equal positions, the larger one first, a position that is none, not rising, twice, an unnamed bit
    ∷ (0x10000202 ∷ 0x20000001 ∷ 0x20000002 ∷ 0x30000101 ∷ [], refused 3)
    ∷ (0x10000202 ∷ 0x20000001 ∷ 0x20000002 ∷ 0x30000100 ∷ [], refused 3)
    ∷ (0x10000202 ∷ 0x20000001 ∷ 0x20000002 ∷ 0x30000002 ∷ [], refused 3)
    ∷ (0x10000203 ∷ 0x20000000 ∷ 0x20000001 ∷ 0x20000002 ∷ 0x30000102 ∷ 0x30000001 ∷ [], refused 5)
    ∷ (0x10000202 ∷ 0x20000001 ∷ 0x20000002 ∷ 0x30000001 ∷ 0x30000001 ∷ [], refused 4)
    ∷ (0x10000202 ∷ 0x20000001 ∷ 0x20000002 ∷ 0x30010001 ∷ [], refused 3)
    ∷ []

-- all of them, computed; by `read_is_plan` the words of P1, P2 and P3 are then those of document 01
pub examples_read : map (λ s. read_of s.0) examples ≡ map (λ s. s.1) examples
unfolding kind_of read_from read_of
examples_read = refl
