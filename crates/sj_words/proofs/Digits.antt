-- What `parse` says of the digits that `is_digits` passes.
use Rattle.std.proofs.Common.{◌≡◌, ℕ, ◌<◌, ◌^◌, true, List, length, arith, Result, Ok, Err}
use Rattle.std.specs.Result.{result_ok}
use Rattle.std.specs.Option.{SomeIff}
use Rattle.std.specs.Str.Parse.{ParsesUnsigned}
use Rattle.std.proofs.lemmas.Bool.Decides.{nat_tests}
use Rattle.sj_words.specs.Options.{is_number}
use Rattle.std.specs.List.{list_all}
use Rattle.std.specs.Char.{is_ascii_digit}
use Rattle.std.specs.Str.Parse.{digits_value}
use Rattle.std.proofs.lemmas.Str.Parse.{parse_digits}
use Rattle.sj_job.proofs.Digits.{own}

digits : (ds : List ℕ) → is_number ds ≡ true → (0 < length ds) × (list_all is_ascii_digit ds ≡ true)
digits ds h = grind (arith, nat_tests)

pub value_from_parse : {E : Type 0} (ds : List ℕ) (r : Result ℕ E) → is_number ds ≡ true → ParsesUnsigned 64 10 ds r → SomeIff (result_ok r) (digits_value 10 ds < 2 ^ 64) (digits_value 10 ds)
value_from_parse {E} ds (Ok n) d h = let k = parse_digits own {E = E} 64 ds (Ok n) h (digits ds d).1 in (k.0.1, k.1)
value_from_parse {E} ds (Err e) d h = λ lt. parse_digits own {E = E} 64 ds (Err e) h (digits ds d).1 ((digits ds d).0, lt)
