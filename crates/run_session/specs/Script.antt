-- The form of a script, whose parts are read in their order.
use Rattle.std.specs.Prelude.{◌≡◌, ◌&&◌, ℕ, List, [], ◌∷◌, codes, Bool, is_some, Option, Some, None, Result, Ok, Err}
use Rattle.serde_json.specs.Data.{Data}
use Rattle.serde_json.specs.Find.{get}
use Rattle.json_form.specs.Form.{given_if, integer_form, count_form, list_form, has_only, field_form, field_or}
use Rattle.json_form.specs.declared.form.FormFault.{FormFault}
use Rattle.json_form.specs.declared.form.FormFault.TheVariants as form
use Rattle.json_form.specs.declared.text.TextFault.{TextFault}
use Rattle.json_form.specs.declared.text.TextFault.TheVariants as text
use Rattle.wasm_sem.specs.declared.Call.{Call}
use Rattle.wasm_sem.specs.declared.Script.{Script}
use Rattle.run_session.specs.declared.script.ScriptFault.{ScriptFault}
use Rattle.run_session.specs.declared.script.ScriptFault.TheVariants.{NotJson, NotScript, NoMemory}
use Rattle.run_session.specs.Forms.{call_form, answer_form}

-- the part at `place`, or the place if the part is wrong
abbrev pub part : {A : Type 0} → (place : ℕ) → Option A → Result A ℕ
part place (Some a) = Ok a
part place None = Err place

-- one part after another, up to the first that is wrong
abbrev pub after_part : {A B : Type 0} → Result A ℕ → (A → Result B ℕ) → Result B ℕ
after_part (Ok a) f = f a
after_part (Err place) f = Err place

abbrev pub script_keys : List (List ℕ)
script_keys = codes "calls" ∷ codes "host" ∷ codes "globals" ∷ codes "pages" ∷ codes "depth" ∷ codes "steps" ∷ []

-- an object that has no other key, and `calls`
abbrev pub has_script_keys : Data → Bool
has_script_keys d = has_only script_keys d && is_some (get (codes "calls") d)

abbrev pub keys_part : Data → Result Unit ℕ
keys_part d = part 1 (given_if (has_script_keys d) (tt {0}))

abbrev pub calls_part : Data → Result (List Call) ℕ
calls_part d = part 2 (field_form (codes "calls") (list_form call_form) d)

-- the script that a value is, or its first wrong part: first the keys, then the value at each key
abbrev pub script_form : Data → Result Script ℕ
script_form d =
    after_part (keys_part d) λ keys.
    after_part (calls_part d) λ calls.
    after_part (part 3 (field_or (codes "host") [] (list_form answer_form) d)) λ hosts.
    after_part (part 4 (field_or (codes "globals") [] (list_form integer_form) d)) λ globals.
    after_part (part 5 (field_or (codes "pages") 1024 (count_form 0 4096) d)) λ pages.
    after_part (part 6 (field_or (codes "depth") 10000 (count_form 1 100000) d)) λ depth.
    after_part (part 7 (field_or (codes "steps") 10000000 (count_form 1 1000000000000) d)) λ steps.
    Ok (record { calls = calls; hosts = hosts; globals = globals; pages = pages; depth = depth; steps = steps })

-- what was read is what the form reads
abbrev pub ReadsPart : {A : Type 0} → Result A ScriptFault → Result A ℕ → Type 0
ReadsPart (Ok a) form = form ≡ Ok a
ReadsPart (Err NotJson) form = ⊥
ReadsPart (Err (NotScript place)) form = form ≡ Err place
ReadsPart (Err NoMemory) form = Unit {0}

-- the fault of the part at `place`
abbrev pub fault_at : (place : ℕ) → FormFault → ScriptFault
fault_at place form.Wrong = NotScript place
fault_at place form.NoMemory = NoMemory

abbrev pub text_fault : TextFault → ScriptFault
text_fault text.NotJson = NotJson
text_fault text.NoMemory = NoMemory
