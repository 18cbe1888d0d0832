-- The lines of the refusals of any command.
use Rattle.std.specs.Prelude.{ℕ, List, [], ◌∷◌, ◌++◌, codes, decimal}
use Rattle.std.specs.Fmt.{signed_decimal}
use Rattle.wasm_sem.specs.Types.{Loc, Which}
use Rattle.module_ast.specs.declared.module.Which.TheVariants.{Functions, Types, Parameters, Locals, Nesting}

-- pieces of text, one after the other
abbrev pub concat_texts : List (List ℕ) → List ℕ
concat_texts [] = []
concat_texts (piece ∷ []) = piece
concat_texts (piece ∷ pieces) = piece ++ concat_texts pieces

-- the line of each refusal; `name` is the name that was read or written

abbrev pub bad_words_text : List ℕ
bad_words_text = codes "error 2: bad words\n"

abbrev pub missing_text : (name : List ℕ) → List ℕ
missing_text name = concat_texts (codes "error 3: " ∷ name ∷ codes " is missing\n" ∷ [])

abbrev pub too_long_text : (name : List ℕ) → (long : ℕ) → List ℕ
too_long_text name long = concat_texts (codes "error 3: " ∷ name ∷ codes " is too long: " ∷ decimal long ∷ codes "\n" ∷ [])

abbrev pub unread_text : (name : List ℕ) → List ℕ
unread_text name = concat_texts (codes "error 4: " ∷ name ∷ codes " can't be read\n" ∷ [])

abbrev pub unwritten_text : (name : List ℕ) → List ℕ
unwritten_text name = concat_texts (codes "error 5: " ∷ name ∷ codes " can't be written\n" ∷ [])

abbrev pub malformed_text : (name : List ℕ) → (section : ℕ) → List ℕ
malformed_text name section = concat_texts (codes "error 6: " ∷ name ∷ codes " is malformed in section " ∷ decimal section ∷ codes "\n" ∷ [])

abbrev pub floats_text : (name : List ℕ) → (section : ℕ) → List ℕ
floats_text name section = concat_texts (codes "error 7: " ∷ name ∷ codes " uses floats in section " ∷ decimal section ∷ codes "\n" ∷ [])

abbrev pub which_name : Which → List ℕ
which_name Functions = codes "functions"
which_name Types = codes "types"
which_name Parameters = codes "parameters"
which_name Locals = codes "locals"
which_name Nesting = codes "nesting"

abbrev pub limit_text : (name : List ℕ) → Which → (value : ℕ) → List ℕ
limit_text name which value =
    concat_texts (codes "error 7: " ∷ name ∷ codes " is over the limit of " ∷ which_name which ∷ codes ": " ∷ decimal value ∷
    codes "\n" ∷ [])

abbrev pub rule_text : (name : List ℕ) → (rule : ℕ) → List ℕ
rule_text name rule = concat_texts (codes "error 8: " ∷ name ∷ codes " breaks rule " ∷ decimal rule ∷ codes "\n" ∷ [])

abbrev pub body_text : (name : List ℕ) → (func : ℕ) → List ℕ
body_text name func = concat_texts (codes "error 8: " ∷ name ∷ codes " has an invalid body: function " ∷ decimal func ∷ codes "\n" ∷ [])

abbrev pub no_memory_text : List ℕ
no_memory_text = codes "error 14: out of memory\n"

abbrev pub info_not_json_text : List ℕ
info_not_json_text = codes "error 16: information is not JSON\n"

abbrev pub not_info_text : List ℕ
not_info_text = codes "error 16: information is not information\n"

abbrev pub foreign_text : List ℕ
foreign_text = codes "error 16: information does not belong to the module\n"

abbrev pub long_trace_text : (bound : ℕ) → List ℕ
long_trace_text bound = concat_texts (codes "error 18: the trace is longer than " ∷ decimal bound ∷ codes " bytes\n" ∷ [])

abbrev pub not_trace_text : (name : List ℕ) → List ℕ
not_trace_text name = concat_texts (codes "error 19: " ∷ name ∷ codes " is not a trace\n" ∷ [])

abbrev pub few_groups_text : List ℕ
few_groups_text = codes "error 21: information lacks begin or end\n"

abbrev pub not_nested_text : Loc → List ℕ
not_nested_text p = concat_texts (codes "error 22: events do not nest at " ∷ decimal p.func ∷ codes ":" ∷ signed_decimal p.instr ∷ codes "\n" ∷ [])

abbrev pub not_json_text : List ℕ
not_json_text = codes "error 10: script is not JSON\n"

abbrev pub wrong_script_text : (place : ℕ) → List ℕ
wrong_script_text place = concat_texts (codes "error 10: script is wrong at " ∷ decimal place ∷ codes "\n" ∷ [])
