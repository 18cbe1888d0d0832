-- The forms of the parts of a script.
use Rattle.std.specs.Prelude.{◌-◌, ◌^◌, ℕ, List, [], ◌∷◌, codes, Option, Some, option_and_then}
use Rattle.std.specs.Result.{result_ok}
use Rattle.serde_json.specs.Data.{Data}
use Rattle.serde_json.specs.Find.{as_str}
use Rattle.hex.specs.Hex.{decode_of}
use Rattle.json_form.specs.Form.{only_keys, only_length, item_form, text_form, integer_form, count_form, list_form, field_form, ◌>>=◌}
use Rattle.wasm_sem.specs.declared.Call.{Call}
use Rattle.wasm_sem.specs.declared.HostWrite.{HostWrite}
use Rattle.wasm_sem.specs.declared.HostAnswer.{HostAnswer}

-- an object with exactly `export` and `args`
abbrev pub call_form : Data → Option Call
call_form d = do
  keys ← only_keys (codes "export" ∷ codes "args" ∷ []) d
  export ← field_form (codes "export") text_form d
  args ← field_form (codes "args") (list_form integer_form) d
  Some (record { export = export; args = args })

-- pairs of hexadecimal digits of either case
abbrev pub hex_form : Data → Option (List ℕ)
hex_form d = option_and_then (λ text. result_ok (decode_of text)) (as_str d)

-- a list of exactly an address and bytes
abbrev pub write_form : Data → Option HostWrite
write_form d = do
  two ← only_length 2 d
  address ← item_form 0 (count_form 0 (2 ^ 32 - 1)) d
  bytes ← item_form 1 hex_form d
  Some (record { address = address; bytes = bytes })

-- an object with exactly `results` and `writes`
abbrev pub answer_form : Data → Option HostAnswer
answer_form d = do
  keys ← only_keys (codes "results" ∷ codes "writes" ∷ []) d
  results ← field_form (codes "results") (list_form integer_form) d
  writes ← field_form (codes "writes") (list_form write_form) d
  Some (record { results = results; writes = writes })
