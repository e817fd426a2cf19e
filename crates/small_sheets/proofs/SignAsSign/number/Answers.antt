-- `small_sheets::SignAsSign::number` meets its contract: a sign's number is its place among the signs, case by case. Assumes nothing.
use Rattle.std.proofs.Common.{refl, ◌≡◌}
use denote.Enum.Declared.{tag_of}
use Rattle.small_sheets.specs.Signs.{code_of}
use Rattle.small_sheets.specs.declared.Sign.{Sign}
use Rattle.small_sheets.specs.contracts.Sign.{the_type}
use Rattle.small_sheets.proofs.SignAsSign.number.Goals as goal

tag_is_code : (s : Sign) → tag_of the_type s ≡ code_of s
tag_is_code Sign.Nothing = refl
tag_is_code Sign.All = refl
tag_is_code Sign.True = refl
tag_is_code Sign.False = refl
tag_is_code Sign.Rest = refl
tag_is_code Sign.Not = refl
tag_is_code Sign.Empty = refl
tag_is_code Sign.SpacedEmpty = refl
tag_is_code Sign.Common = refl
tag_is_code Sign.Either = refl
tag_is_code Sign.Contact = refl
tag_is_code Sign.Part = refl
tag_is_code Sign.And = refl
tag_is_code Sign.Or = refl
tag_is_code Sign.If = refl
tag_is_code Sign.ExactlyIf = refl
tag_is_code Sign.Name = refl
tag_is_code Sign.Second = refl
tag_is_code Sign.Third = refl
tag_is_code Sign.Rule = refl

pub returns : goal.returns
returns c = tag_is_code c.args.self
