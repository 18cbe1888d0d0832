-- The words of a command: which are accepted, and what they ask for.
use Rattle.std.specs.Prelude.{◌≡◌, ◌&&◌, ℕ, Bool, true, List, [], ◌∷◌, map, codes, cond, find, Option, Some, None, is_some, option_map, unwrap_or, String, string_bytes}
use Rattle.std.specs.List.{list_all}
use Rattle.std.specs.Str.{bytes_eq}
use Rattle.std.specs.declared.alloc.Global.{Global}
use Rattle.std.specs.Str.Parse.{digits_value, without_leading_plus}
use Rattle.module_ast.specs.Validation.Limits.{longest_file}
use Rattle.clap.specs.ValueTests.{is_unsigned_in}
use Rattle.clap.specs.Words.{App, Kinds, Rule, Text, fault_of, first_of, matches_of, new_app, new_rule, with_rule}
use Rattle.clap.specs.declared.builder.value_parser.ValueParser.{ValueParser}
use Rattle.clap.specs.declared.builder.value_parser.ValueParser.TheVariants as parser
use Rattle.command_line.specs.declared.words.Line.{Line as ReadLine}

-- texts as their bytes
abbrev pub texts : List (String Global) → List Text
texts words = map string_bytes words

-- ---- the options

-- what an option takes: any text, a text that is `default` if it is not given, or a number from 1 to `most`
pub data Kind : Type 0 where
  any_text : Kind
  text_or : (default : Text) → Kind
  number_to : (most : ℕ) → (default : Text) → Kind

-- the most threads that a command may ask for
abbrev pub most_jobs : ℕ
most_jobs = 64

-- the most bytes of an output, in decimal
abbrev pub longest_file_digits : Text
longest_file_digits = codes "268435456"

-- each option's name, and what it takes
abbrev pub options : List (Text × Kind)
options =
    (codes "out", any_text)
    ∷ (codes "info", any_text)
    ∷ (codes "script", any_text)
    ∷ (codes "sources", any_text)
    ∷ (codes "sinks", any_text)
    ∷ (codes "functions", any_text)
    ∷ (codes "except", any_text)
    ∷ (codes "hooks", text_or (codes "all"))
    ∷ (codes "reports", text_or (codes "all"))
    ∷ (codes "names", text_or (codes "drop"))
    ∷ (codes "jobs", number_to most_jobs (codes "1"))
    ∷ (codes "max-output", number_to longest_file longest_file_digits)
    ∷ []

abbrev pub option_named : (id : Text) → Option (Text × Kind)
option_named id = find (λ o. bytes_eq o.0 id) options

-- ---- the command

abbrev pub defaults_of : Kind → List Text
defaults_of any_text = []
defaults_of (text_or default) = default ∷ []
defaults_of (number_to most default) = default ∷ []

abbrev pub parser_of : Kind → Option ValueParser
parser_of (number_to most default) = Some (parser.Unsigned 1 most)
parser_of _ = None

-- a word that belongs to no option and must be given
abbrev pub wanted : (id : Text) → Rule
wanted id = record (new_rule id) { required = true }

abbrev pub option_rule : Text × Kind → Rule
option_rule o = record (new_rule o.0) { long = Some o.0; parser = parser_of o.1; defaults = defaults_of o.1 }

abbrev pub with_rules : App → List Rule → App
with_rules app [] = app
with_rules app (rule ∷ rest) = with_rules (with_rule app rule) rest

-- `wasabi MODE SUBJECT` with its options
abbrev pub wasabi : App
wasabi = with_rules (new_app (codes "wasabi")) (wanted (codes "mode") ∷ wanted (codes "subject") ∷ map option_rule options)

-- ---- what the words ask for

pub record Line : Type 0 where
  pub mode : Text
  pub subject : Text
  pub out : Option Text
  pub info : Option Text
  pub script : Option Text
  pub sources : Option Text
  pub sinks : Option Text
  pub functions : Option Text
  pub except : Option Text
  pub hooks : Text
  pub reports : Text
  pub names : Text
  pub jobs : ℕ
  pub max_output : ℕ

-- the number that a text writes, with or without a `+`, if it is from 1 to `most`
abbrev pub number_in : (most : ℕ) → Option Text → Option ℕ
number_in most None = None
number_in most (Some text) = cond (is_unsigned_in 1 most text) (Some (digits_value 10 (without_leading_plus text))) None

-- whether an option of this kind may have this text, or may have no text
abbrev pub may_have : Kind → Option Text → Bool
may_have any_text value = true
may_have (text_or default) value = is_some value
may_have (number_to most default) value = is_some (number_in most value)

-- whether there are a mode and a subject, and each option has what it may have
abbrev pub is_complete : (value : Text → Option Text) → Bool
is_complete value = is_some (value (codes "mode")) && (is_some (value (codes "subject")) && list_all (λ o. may_have o.1 (value o.0)) options)

-- the line of the texts under the names of arguments, if these are complete
abbrev pub line_at : (value : Text → Option Text) → Line
line_at value = record {
  mode = unwrap_or (value (codes "mode")) [];
  subject = unwrap_or (value (codes "subject")) [];
  out = value (codes "out");
  info = value (codes "info");
  script = value (codes "script");
  sources = value (codes "sources");
  sinks = value (codes "sinks");
  functions = value (codes "functions");
  except = value (codes "except");
  hooks = unwrap_or (value (codes "hooks")) [];
  reports = unwrap_or (value (codes "reports")) [];
  names = unwrap_or (value (codes "names")) [];
  jobs = unwrap_or (number_in most_jobs (value (codes "jobs"))) 1;
  max_output = unwrap_or (number_in longest_file (value (codes "max-output"))) 1;
}

abbrev pub line_by : (value : Text → Option Text) → Option Line
line_by value = cond (is_complete value) (Some (line_at value)) None

-- the line if there is no fault
abbrev pub unless : Kinds → Option Line → Option Line
unless [] line = line
unless (fault ∷ faults) line = None

-- the line of words; none if the parser refuses them
abbrev pub line_of_words : List Text → Option Line
line_of_words words = unless (fault_of wasabi words) (line_by (λ id. first_of id (matches_of wasabi words)))

-- the words ask for this line
abbrev pub IsLine : List Text → Line → Type 0
IsLine words line = line_of_words words ≡ Some line

-- the words ask for nothing
abbrev pub AsksForNothing : List Text → Type 0
AsksForNothing words = line_of_words words ≡ None

-- the line that the code has read, as texts and numbers
abbrev pub line_of : ReadLine → Line
line_of line = record {
  mode = line.mode.now;
  subject = line.subject.now;
  out = option_map (λ t. t.now) line.out;
  info = option_map (λ t. t.now) line.info;
  script = option_map (λ t. t.now) line.script;
  sources = option_map (λ t. t.now) line.sources;
  sinks = option_map (λ t. t.now) line.sinks;
  functions = option_map (λ t. t.now) line.functions;
  except = option_map (λ t. t.now) line.except;
  hooks = line.hooks.now;
  reports = line.reports.now;
  names = line.names.now;
  jobs = line.jobs;
  max_output = line.max_output;
}
