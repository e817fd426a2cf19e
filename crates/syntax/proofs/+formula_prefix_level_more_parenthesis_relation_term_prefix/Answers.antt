-- The readers that call each other meet their contracts: each answer cites the law of the call or the return that asks it.
-- Assumes nothing.
use mathlib.Core.Path.{◌≡◌, refl, sym, ap, ◌∙◌}
use native.Mathlib.Omega.{arith}
use Rattle.std.specs.Prelude.{Option, ℕ, true}
use Rattle.std.specs.Option.{is_none}
use Rattle.std.proofs.Common.{rules}
use Rattle.syntax.proofs.Readers.{level_said, level_alone, held_level_asked, held_refused, held_next, held_none, tilde_said, constant_said, relation_prefix_said, zeroed_said, minus_said, parenthesis_prefix_said, leaf_said, no_term_said, opening_joined, opening_alone, opening_refused, parenthesis_said, first_refused, no_opening_said, relation_said, said_err, more_err, parenthesis_err, relation_err}
use Rattle.syntax.proofs.+formula_prefix_level_more_parenthesis_relation_term_prefix.Goals as goal

none_found : {r f : Option ℕ} → r ≡ f → is_none r ≡ true → is_none f ≡ true
none_found e h = ap is_none (sym e) ∙ h

pub formula_prefix-returns-in_err-x-in-7 : goal.formula_prefix-returns-in_err-x-in-7
formula_prefix-returns-in_err-x-in-7 t c =
    said_err (search rules) (tilde_said _ _ _ c.requires _ _ _ _ _ _ c.kind_at-c.ensures c.in-7.is c.in_err-x-in-7.ensures (refl, refl))

pub formula_prefix-returns-in_ok-x-in-7 : goal.formula_prefix-returns-in_ok-x-in-7
formula_prefix-returns-in_ok-x-in-7 t c =
    tilde_said _ _ _ c.requires _ _ _ _ _ _ c.kind_at-c.ensures c.in-7.is c.in_ok-x-in-7.ensures c.ended.ensures

pub formula_prefix-returns-in_err-x-in-8 : goal.formula_prefix-returns-in_err-x-in-8
formula_prefix-returns-in_err-x-in-8 t c =
    said_err (search rules) (opening_refused _ _ _ c.requires _ c.kind_at-c.ensures c.in-8.is _ _ _ c.in_err-x-in-8.ensures _ refl)

pub formula_prefix-returns-then-is_none : goal.formula_prefix-returns-then-is_none
formula_prefix-returns-then-is_none t c =
    zeroed_said _ _ _ c.requires _ _ _ _ _ (opening_alone _ _ _ c.requires _ c.kind_at-c.ensures c.in-8.is _ _ _ c.in_ok-x-in-8.ensures (none_found c.follows.ensures (search rules))) c.zeroed.ensures

pub formula_prefix-returns-in_err-y-in-8 : goal.formula_prefix-returns-in_err-y-in-8
formula_prefix-returns-in_err-y-in-8 t c =
    said_err (search rules) (zeroed_said _ _ _ c.requires _ _ _ _ _ (opening_joined _ _ _ c.requires _ c.kind_at-c.ensures c.in-8.is _ _ _ c.in_ok-x-in-8.ensures _ _ c.in_err-y-in-8.ensures) (refl, refl))

pub formula_prefix-returns-in_ok-y-in-8 : goal.formula_prefix-returns-in_ok-y-in-8
formula_prefix-returns-in_ok-y-in-8 t c =
    zeroed_said _ _ _ c.requires _ _ _ _ _ (opening_joined _ _ _ c.requires _ c.kind_at-c.ensures c.in-8.is _ _ _ c.in_ok-x-in-8.ensures _ _ c.in_ok-y-in-8.ensures) c.zeroed-in-8.ensures

pub formula_prefix-returns-in-12-to-13 : goal.formula_prefix-returns-in-12-to-13
formula_prefix-returns-in-12-to-13 t c =
    constant_said _ _ _ c.requires _ _ c.kind_at-c.ensures (omega arith) (omega arith)

pub formula_prefix-returns-in-14-to-15 : goal.formula_prefix-returns-in-14-to-15
formula_prefix-returns-in-14-to-15 t c =
    relation_prefix_said _ _ _ c.requires _ _ _ _ c.kind_at-c.ensures (omega arith) (omega arith) c.relation.ensures

pub formula_prefix-returns-in_ok-x-in_default : goal.formula_prefix-returns-in_ok-x-in_default
formula_prefix-returns-in_ok-x-in_default t c =
    zeroed_said _ _ _ c.requires _ _ _ _ _ c.in_ok-x-in_default.ensures c.zeroed-in_default.ensures

pub level-returns-then-is_none : goal.level-returns-then-is_none
level-returns-then-is_none t c =
    level_alone _ _ _ _ _ _ _ _ _ _ c.requires (sym (c.requires.formula c.if-k-lt4.true)) (omega (arith, c.if-k-lt4.true)) (λ h. omega arith) c.in_ok-x.ensures (none_found c.follows.ensures (search rules))

pub level-returns-then-is_none-2 : goal.level-returns-then-is_none-2
level-returns-then-is_none-2 t c =
    level_alone _ _ _ _ _ _ _ _ _ _ c.requires refl c.requires.deep (λ h. omega (arith, h, c.if-k-lt4.false)) c.in_ok-x-2.ensures (none_found c.follows-2.ensures (search rules))

pub level-returns-then-k-lt4 : goal.level-returns-then-k-lt4
level-returns-then-k-lt4 t c =
    level_said _ _ _ _ _ _ _ _ _ _ _ _ (sym (c.requires.formula c.if-k-lt4.true)) (omega (arith, c.if-k-lt4.true)) c.in_ok-x.ensures c.more.ensures

pub level-returns : goal.level-returns
level-returns t c =
    level_said _ _ _ _ _ _ _ _ _ _ _ _ refl c.requires.deep c.in_ok-x-2.ensures c.more-2.ensures

pub more-level-requires : goal.more-level-requires
more-level-requires t c =
    held_level_asked _ _ _ _ _ _ _ _ c.loop-b.invariant _ _ c.in-Some.ensures c.kind_at-c.ensures _ c.decreases

pub more-returns-in_err-x : goal.more-returns-in_err-x
more-returns-in_err-x t c =
    more_err (search rules) (held_refused _ _ _ _ _ _ _ _ c.loop-b.invariant _ _ c.in-Some.ensures c.kind_at-c.ensures _ _ c.in_err-x.ensures _ _ (refl, refl))

pub more-returns-in_err-v : goal.more-returns-in_err-v
more-returns-in_err-v t c =
    more_err (search rules) (held_refused _ _ _ _ _ _ _ _ c.loop-b.invariant _ _ c.in-Some.ensures c.kind_at-c.ensures _ _ c.in_ok-x.ensures _ _ c.in_err-v.ensures)

pub more-loop-b-preserved : goal.more-loop-b-preserved
more-loop-b-preserved t c =
    held_next _ _ _ _ _ _ _ _ c.loop-b.invariant _ _ c.in-Some.ensures c.kind_at-c.ensures _ _ c.in_ok-x.ensures _ _ c.in_ok-v.ensures

pub more-returns : goal.more-returns
more-returns t c = held_none _ _ _ _ _ _ _ _ c.loop-b.invariant c.in_default.ensures

pub parenthesis-returns-in_err-x : goal.parenthesis-returns-in_err-x
parenthesis-returns-in_err-x t c =
    parenthesis_err (search rules) (parenthesis_said _ _ _ _ _ _ _ _ _ c.start.ensures c.in_err-x.ensures refl)

pub parenthesis-returns : goal.parenthesis-returns
parenthesis-returns t c =
    parenthesis_said _ _ _ _ _ _ _ _ _ c.start.ensures c.in_ok-x.ensures c.expected.ensures

pub relation-returns-then-kind_at-ne-OPEN : goal.relation-returns-then-kind_at-ne-OPEN
relation-returns-then-kind_at-ne-OPEN t c =
    no_opening_said _ _ _ c.requires _ _ _ c.kind_at.ensures c.if-kind_at-ne-OPEN.true

pub relation-returns-in_err-x : goal.relation-returns-in_err-x
relation-returns-in_err-x t c =
    relation_err (search rules) (first_refused _ _ _ c.requires _ _ _ c.in_err-x.ensures _ _ _ _ c.kind_at.ensures c.if-kind_at-ne-OPEN.false refl refl)

pub relation-returns-in_err-y : goal.relation-returns-in_err-y
relation-returns-in_err-y t c =
    relation_err (search rules) (first_refused _ _ _ c.requires _ _ _ c.in_ok-x.ensures _ _ _ _ c.kind_at.ensures c.if-kind_at-ne-OPEN.false c.in_err-y.ensures refl)

pub relation-returns-in_err-z : goal.relation-returns-in_err-z
relation-returns-in_err-z t c =
    relation_err (search rules) (relation_said _ _ _ c.requires _ _ _ c.in_ok-x.ensures _ _ _ _ c.in_ok-y.ensures refl _ _ c.in_err-z.ensures _ _ _ _ _ c.kind_at.ensures c.if-kind_at-ne-OPEN.false refl (refl, refl))

pub relation-returns-in_err-e : goal.relation-returns-in_err-e
relation-returns-in_err-e t c =
    relation_err (search rules) (relation_said _ _ _ c.requires _ _ _ c.in_ok-x.ensures _ _ _ _ c.in_ok-y.ensures refl _ _ c.in_ok-z.ensures _ _ _ _ _ c.kind_at.ensures c.if-kind_at-ne-OPEN.false c.in_err-e.ensures (refl, refl))

pub relation-returns : goal.relation-returns
relation-returns t c =
    relation_said _ _ _ c.requires _ _ _ c.in_ok-x.ensures _ _ _ _ c.in_ok-y.ensures refl _ _ c.in_ok-z.ensures _ _ _ _ _ c.kind_at.ensures c.if-kind_at-ne-OPEN.false c.in_ok-e.ensures c.related.ensures

pub term_prefix-returns-in_err-x-in-6 : goal.term_prefix-returns-in_err-x-in-6
term_prefix-returns-in_err-x-in-6 t c =
    said_err (search rules) (minus_said _ _ _ _ c.requires _ _ _ _ _ _ c.kind_at-c.ensures c.in-6.is c.in_err-x-in-6.ensures (refl, refl))

pub term_prefix-returns-in_ok-x-in-6 : goal.term_prefix-returns-in_ok-x-in-6
term_prefix-returns-in_ok-x-in-6 t c =
    minus_said _ _ _ _ c.requires _ _ _ _ _ _ c.kind_at-c.ensures c.in-6.is c.in_ok-x-in-6.ensures c.ended.ensures

pub term_prefix-returns-in-8 : goal.term_prefix-returns-in-8
term_prefix-returns-in-8 t c =
    parenthesis_prefix_said _ _ _ _ c.requires _ _ _ _ c.kind_at-c.ensures c.in-8.is c.parenthesis.ensures

pub term_prefix-returns-in-16-to-18 : goal.term_prefix-returns-in-16-to-18
term_prefix-returns-in-16-to-18 t c =
    leaf_said _ _ _ _ c.requires _ _ c.kind_at-c.ensures (omega arith) (omega arith)

pub term_prefix-returns-in_default : goal.term_prefix-returns-in_default
term_prefix-returns-in_default t c =
    no_term_said _ _ _ _ c.requires _ _ c.kind_at-c.ensures (λ h. omega arith) (λ h. omega arith) (λ h. omega arith)

pub term_prefix-returns-in_default-2 : goal.term_prefix-returns-in_default-2
term_prefix-returns-in_default-2 t c =
    no_term_said _ _ _ _ c.requires _ _ c.kind_at-c.ensures (λ h. omega arith) (λ h. omega arith) (λ h. omega arith)
