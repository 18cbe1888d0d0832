-- What the bytes under a name must be, and why they are not that.
use Rattle.std.specs.Prelude.{◌≡◌, ℕ, ◌≤◌, List, length, Bool, true, false, Option, Err}
use Rattle.outside_io.specs.Outside.{Contents, Holds, Rose, IsMissing, IsTooLong, ShelfState}
use Rattle.serde_json.specs.Data.{Data}
use Rattle.wasm_sem.specs.Types.{Limits, Module, Which, Event}
use Rattle.module_ast.specs.Binary.{IsFault, FileFloats, FileExceeds}
use Rattle.module_ast.specs.Structure.{funcs_of}
use Rattle.module_ast.specs.Validation.{ValidityRule, number_of, IsValid, IsFirstBroken, IsFirstInvalid, longest_file, longest_narrow_file}
use Rattle.name_map.specs.declared.Names.{Names}
use Rattle.name_map.specs.Names.{no_names}
use Rattle.name_map.specs.Sections.{AreNames}
use Rattle.wasm_sem.specs.declared.Script.{Script}
use Rattle.json_form.specs.Text.{IsText, IsNoText}
use Rattle.run_session.specs.Script.{script_form}
use Rattle.static_info.specs.declared.Info.{Info}
use Rattle.static_info.specs.Json.{HoldInfo, HoldNoInfo}
use Rattle.static_info.specs.Belongs.{Belongs}
use Rattle.trace_file.specs.Files.{IsTrace, IsNoTrace}
use Rattle.app_load.specs.Files.{IsFit, IsNoModule, IsUnfit, IsInvalid, IsScript, IsNoScript}
use Rattle.app_load.specs.Texts.{missing_text, too_long_text, unread_text, malformed_text, floats_text, limit_text, rule_text, body_text, not_json_text, wrong_script_text, info_not_json_text, not_info_text, foreign_text, not_trace_text, no_memory_text}

-- A kind of content: the value that its bytes spell, when they spell a value, and when they are no such content, with the
-- status that tells so, and with the line that says why.
pub record Content : Type 1 where
  pub Value : Type 0
  pub Spell : (bytes : List ℕ) → Value → Type 0
  pub IsWrong : (bytes : List ℕ) → (status : ℕ) → Type 0
  pub Refutes : (name bytes : List ℕ) → (status : ℕ) → (text : List ℕ) → Type 0

-- ---- a module

-- the bytes are no valid module within the limits, with the status that tells so
pub data IsNoFile (limits : Limits) (bytes : List ℕ) : ℕ → Type 0 where
  malformed : IsNoModule bytes → IsNoFile limits bytes 6
  unfit : IsUnfit limits bytes → IsNoFile limits bytes 7
  invalid : IsInvalid limits bytes → IsNoFile limits bytes 8

-- the bytes are no valid module within the limits, with the status and the line
pub data RefutesFile (name : List ℕ) (limits : Limits) (bytes : List ℕ) : (status : ℕ) → (text : List ℕ) → Type 0 where
  is_malformed : (section : ℕ) → IsFault bytes section → RefutesFile name limits bytes 6 (malformed_text name section)
  has_floats : (section : ℕ) → FileFloats bytes section → RefutesFile name limits bytes 7 (floats_text name section)
  over_limit : (which : Which) (value : ℕ) → FileExceeds limits bytes which value → RefutesFile name limits bytes 7 (limit_text name which value)
  broken_rule : (m : Module) (rule : ValidityRule) → IsFit limits bytes m → IsFirstBroken m rule → RefutesFile name limits bytes 8 (rule_text name (number_of rule))
  invalid_body : (m : Module) (func : ℕ) → IsFit limits bytes m → IsFirstInvalid m func → RefutesFile name limits bytes 8 (body_text name func)

-- a valid module within the limits
abbrev pub module_content : Limits → Content
module_content limits = record {
  Value = Module;
  Spell = λ bytes m. IsFit limits bytes m × IsValid m;
  IsWrong = IsNoFile limits;
  Refutes = λ name bytes. RefutesFile name limits bytes;
}

-- the names that the file of a module carries, or no names if they are not kept
abbrev pub AreKept : (keeps : Bool) → (bytes : List ℕ) → Module → Names → Type 0
AreKept false bytes m names = names ≡ no_names
AreKept true bytes m names = AreNames bytes (length (funcs_of m)) names

-- such a module with the names that its file carries, if the names are kept
abbrev pub named_content : Limits → (keeps : Bool) → Content
named_content limits keeps = record (module_content limits) {
  Value = Module × Names;
  Spell = λ bytes named. IsFit limits bytes named.0 × IsValid named.0 × AreKept keeps bytes named.0 named.1;
}

-- ---- a script

-- the bytes are no script, with the line
pub data RefutesScript (bytes : List ℕ) : (text : List ℕ) → Type 0 where
  not_json : IsNoText bytes → RefutesScript bytes not_json_text
  wrong_script : (d : Data) (place : ℕ) → IsText bytes d → script_form d ≡ Err place → RefutesScript bytes (wrong_script_text place)

-- a script, as JSON
abbrev pub script_content : Content
script_content = record {
  Value = Script;
  Spell = IsScript;
  IsWrong = λ bytes status. (status ≡ 10) × IsNoScript bytes;
  Refutes = λ name bytes status text. (status ≡ 10) × RefutesScript bytes text;
}

-- ---- information

-- the bytes are no information on the module, with the line: no JSON, no information, or the information on another module
pub data RefutesInfo (m : Module) (bytes : List ℕ) : (text : List ℕ) → Type 0 where
  info_not_json : IsNoText bytes → RefutesInfo m bytes info_not_json_text
  not_info : HoldNoInfo bytes → RefutesInfo m bytes not_info_text
  foreign : (info : Info) → HoldInfo bytes info → ¬ Belongs info m → RefutesInfo m bytes foreign_text

-- information that belongs to the module
abbrev pub info_content : Module → Content
info_content m = record {
  Value = Info;
  Spell = λ bytes info. HoldInfo bytes info × Belongs info m;
  IsWrong = λ bytes status. (status ≡ 16) × (text : List ℕ) × RefutesInfo m bytes text;
  Refutes = λ name bytes status text. (status ≡ 16) × RefutesInfo m bytes text;
}

-- ---- a trace

-- the trace of events
abbrev pub trace_content : Content
trace_content = record {
  Value = List Event;
  Spell = IsTrace;
  IsWrong = λ bytes status. (status ≡ 19) × IsNoTrace bytes;
  Refutes = λ name bytes status text. (status ≡ 19) × (text ≡ not_trace_text name) × IsNoTrace bytes;
}

-- ---- what is wanted

-- which content the bytes under a name must be
pub data Want : Type 0 where
  a_module : Limits → Want
  a_named_module : Limits → (keeps : Bool) → Want
  a_script : Want
  info_on : Module → Want
  a_trace : Want

-- that content
abbrev pub content : Want → Content
content (a_module limits) = module_content limits
content (a_named_module limits keeps) = named_content limits keeps
content a_script = script_content
content (info_on m) = info_content m
content a_trace = trace_content

-- the value that a read gives
abbrev pub Value : Want → Type 0
Value want = (content want).Value

-- ---- reads

-- the read of a name, of at most `cap` bytes, and what those bytes must be
pub record Read : Type 0 where
  pub name : List ℕ
  pub cap : ℕ
  pub want : Want

-- the read with these parts; the definitions below are the reads of each kind
abbrev pub read_as : (name : List ℕ) → (cap : ℕ) → Want → Read
read_as name cap want = record { name = name; cap = cap; want = want }

abbrev pub module_read : (name : List ℕ) → (cap : ℕ) → Limits → Read
module_read name cap limits = read_as name cap (a_module limits)

abbrev pub named_read : (name : List ℕ) → (cap : ℕ) → Limits → (keeps : Bool) → Read
named_read name cap limits keeps = read_as name cap (a_named_module limits keeps)

abbrev pub script_read : (name : List ℕ) → Read
script_read name = read_as name longest_narrow_file a_script

abbrev pub info_read : (name : List ℕ) → Module → Read
info_read name m = read_as name longest_file (info_on m)

abbrev pub trace_read : (name : List ℕ) → Read
trace_read name = read_as name longest_file a_trace

-- these bytes are read: they are no more than the cap, and if the contents are known, they stand under the name
pub record IsRead (held : Option Contents) (read : Read) (bytes : List ℕ) : Type 0 where
  pub there : Holds held read.name bytes
  pub short : length bytes ≤ read.cap

-- the read gives this value: bytes are read that spell the value
pub record Gives (held : Option Contents) (read : Read) (value : Value read.want) : Type 0 where
  pub bytes : List ℕ
  pub read_well : IsRead held read bytes
  pub spelled : (content read.want).Spell bytes value

-- why the read gives no value, with the status and the line
pub data ReadCause (read : Read) (old new : ShelfState) : (status : ℕ) → (text : List ℕ) → Type 0 where
  missing : IsMissing old.contents read.name (old.read_faults read.name) (new.read_faults read.name) → ReadCause read old new 3 (missing_text read.name)
  too_long : (long : ℕ) → IsTooLong old.contents read.name read.cap long (old.read_faults read.name) (new.read_faults read.name) → ReadCause read old new 3 (too_long_text read.name long)
  unread : Rose (old.read_faults read.name) (new.read_faults read.name) → ReadCause read old new 4 (unread_text read.name)
  refuted : (bytes : List ℕ) (status : ℕ) (text : List ℕ) → IsRead old.contents read bytes → (content read.want).Refutes read.name bytes status text
      → ReadCause read old new status text
  unread_no_memory : ReadCause read old new 14 no_memory_text
