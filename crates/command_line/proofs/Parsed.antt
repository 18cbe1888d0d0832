-- What the parser says of the command, and what is made of its answer.
use Rattle.std.proofs.Common.{◌≡◌, ◌∙◌, ◌≤◌, ◌<◌, ◌^◌, arith, codes, List, ℕ, Bool, true, false, true≢false, refl, sym, ap, subst, cond, [], ◌∷◌, Option, Some, None, option_map, Result, Ok, Err, IfOk, IsErrOf}
use Rattle.std.specs.Prelude.{unwrap_or}
use Rattle.std.specs.Option.{ok_or}
use Rattle.module_ast.specs.Validation.Limits.{longest_file}
use Rattle.std.specs.Str.Parse.{IsNumeral, digits_value, without_leading_plus}
use Rattle.clap.specs.Words.{IsAmong, Kinds, Text, fault_of, first_of, is_simple, is_simple_and_free, matches_of}
use Rattle.clap.specs.ValueTests.{is_unsigned_in}
use Rattle.clap.specs.declared.builder.value_parser.ValueParser.TheVariants as parser
use Rattle.clap.proofs.ValueTestLemmas.{Accepts-accepts, accepts-Accepts}
use Rattle.clap.specs.declared.error.ErrorKind.{ErrorKind}
use Rattle.clap.proofs.OnLiterals.{clap_on_literals}
use Rattle.command_line.specs.Lines.{IsLine, Line, is_complete, line_at, line_by, line_of, number_in, unless, wasabi}
use Rattle.command_line.specs.declared.words.Line.{Line as ReadLine}
use Rattle.command_line.specs.declared.words.LineFault.TheVariants.{Refused}

-- the parser's promises are exact for this command
pub wasabi_is_simple : is_simple wasabi ≡ true
unfolding clap_on_literals
wasabi_is_simple = refl

pub wasabi_is_free : is_simple_and_free wasabi ≡ true
unfolding clap_on_literals
wasabi_is_free = refl

abbrev succeeds : {X E : Type 0} → Result X E → Bool
succeeds (Ok x) = true
succeeds (Err e) = false

-- what was read is the line of the words where the parser found no fault in them
pub line_read : (o : Option ReadLine) (fault : Kinds) (found : Option Line) → option_map line_of o ≡ found → fault ≡ []
    → IfOk (ok_or o Refused) (λ line. unless fault found ≡ Some (line_of line))
line_read None fault found is none = tt
line_read (Some line) fault found is none = ap (λ f. unless f found) none ∙ sym is

pub none_read : (o : Option ReadLine) (fault : Kinds) (found : Option Line) → option_map line_of o ≡ found → fault ≡ []
    → IsErrOf (ok_or o Refused) Refused → unless fault found ≡ None
none_read None fault found is none err = ap (λ f. unless f found) none ∙ sym is
none_read (Some line) fault found is none err = absurd (true≢false (ap succeeds err))

-- ---- a number that was read of a text

pub parsed_number : (most n : ℕ) (t : Text) → (IsNumeral 10 (without_leading_plus t) × (digits_value 10 (without_leading_plus t) < 2 ^ 64)) × (n ≡ digits_value 10 (without_leading_plus t))
    → 1 ≤ n → n ≤ most → number_in most (Some t) ≡ Some n
parsed_number most n t (fits, is) least at_most =
    let accepted = Accepts-accepts false (parser.Unsigned 1 most) t (fits.0, fits.1, subst (λ k. 1 ≤ k) is least, subst (λ k. k ≤ most) is at_most) in
    ap (λ b. cond b (Some (digits_value 10 (without_leading_plus t))) None) accepted ∙ ap Some (sym is)

pub no_number : (most : ℕ) (t : Text) → ¬ (IsNumeral 10 (without_leading_plus t) × (digits_value 10 (without_leading_plus t) < 2 ^ 64)) → number_in most (Some t) ≡ None
no_number most t not = by (is_unsigned_in 1 most t) refl
  where
    by : (b : Bool) → is_unsigned_in 1 most t ≡ b → cond b (Some (digits_value 10 (without_leading_plus t))) None ≡ None
    by true is =
        let fits = accepts-Accepts false (parser.Unsigned 1 most) t is in
        absurd (not (fits.0, fits.1))
    by false is = refl

-- ---- an output has no more bytes than a file that is read

number_at_most : (most : ℕ) (o : Option Text) → 1 ≤ most → unwrap_or (number_in most o) 1 ≤ most
number_at_most most None some = some
number_at_most most (Some t) some = by (is_unsigned_in 1 most t) refl
  where
    by : (b : Bool) → is_unsigned_in 1 most t ≡ b → unwrap_or (cond b (Some (digits_value 10 (without_leading_plus t))) None) 1 ≤ most
    by true is = (accepts-Accepts false (parser.Unsigned 1 most) t is).3
    by false is = some

pub output_within : (words : List Text) (line : Line) → IsLine words line → line.max_output ≤ longest_file
output_within words line is = by (fault_of wasabi words) is
  where
    value : Text → Option Text
    value = λ id. first_of id (matches_of wasabi words)

    at : (complete : Bool) → cond complete (Some (line_at value)) None ≡ Some line → line.max_output ≤ longest_file
    at true e =
        let same : line_at value ≡ line = cc in
        subst (λ (l : Line). l.max_output ≤ longest_file) same (number_at_most longest_file (value (codes "max-output")) (omega arith))
    at false e = cc

    by : (faults : Kinds) → unless faults (line_by value) ≡ Some line → line.max_output ≤ longest_file
    by [] e = at (is_complete value) e
    by (fault ∷ faults) e = cc

-- where it found one, they have no line
pub none_with : (kind : ErrorKind) (fault : Kinds) (found : Option Line) → IsAmong kind fault → unless fault found ≡ None
none_with kind [] found among = absurd among
none_with kind (f ∷ fs) found among = refl

abbrev error_or : {X E : Type 0} → E → Result X E → E
error_or d (Ok x) = d
error_or d (Err e) = e

pub same_error : {X E : Type 0} (e f : E) → IsErrOf {T = X} (Err e) f → e ≡ f
same_error e f is = ap (error_or e) is
