-- A script of the form is in range.
use Rattle.std.proofs.Common.{◌≡◌, ℕ, ◌-◌, ◌^◌, ◌<◌, ◌≤◌, List, [], ◌∷◌, codes, Option, Some, None, Result, Ok, Err, All, IfOk, ℤ, refl, subst, arith}
use Rattle.std.proofs.lemmas.Option.{option_and_then_some}
use Rattle.std.proofs.lemmas.List.Elements.{All-nil}
use Rattle.std.proofs.lemmas.List.{get_or_default}
use Rattle.std.specs.Result.{result_ok}
use Rattle.hex.specs.Hex.{decode_of, IsBytes}
use Rattle.hex.specs.declared.error.FromHexError.{FromHexError}
use Rattle.hex.proofs.HexLemmas.{decode_of-ok}
use Rattle.serde_json.specs.Data.{Data}
use Rattle.serde_json.specs.Find.{get, at, as_str}
use Rattle.json_form.specs.Form.{only_keys, only_length, item_form, integer_form, count_form, list_form, field_form, form_or, field_or}
use Rattle.json_form.proofs.Exact.{then_some, counted}
use Rattle.json_form.proofs.Lists.{all_of_list}
use Rattle.wasm_sem.specs.declared.HostWrite.{HostWrite}
use Rattle.wasm_sem.specs.declared.HostAnswer.{HostAnswer}
use Rattle.wasm_sem.specs.declared.Script.{Script}
use Rattle.wasm_sem.specs.Execution.{IsWriteInRange, IsScriptInRange}
use Rattle.run_session.specs.declared.script.ScriptFault.{ScriptFault}
use Rattle.run_session.specs.Forms.{hex_form, write_form, answer_form}
use Rattle.run_session.specs.Script.{part, after_part, keys_part, calls_part, script_form, ReadsPart}

bind_ok : {A B : Type 0} (r : Result A ℕ) (f : A → Result B ℕ) (b : B) → after_part r f ≡ Ok b → (a : A) × (r ≡ Ok a) × (f a ≡ Ok b)
bind_ok (Ok a) f b e = (a, refl, e)
bind_ok (Err place) f b e = cc

part_ok : {A : Type 0} (place : ℕ) (o : Option A) (a : A) → part place o ≡ Ok a → o ≡ Some a
part_ok place (Some b) a e = cc
part_ok place None a e = cc

limited_at : (absent least most : ℕ) (o : Option Data) (n : ℕ) → least ≤ absent → absent ≤ most → form_or absent (count_form least most) o ≡ Some n → (least ≤ n) × (n ≤ most)
limited_at absent least most None n low high e = let is : absent ≡ n = cc in (subst (λ k. least ≤ k) is low, subst (λ k. k ≤ most) is high)
limited_at absent least most (Some d) n low high e = counted least most d n e

hex_bytes : (r : Result (List ℕ) FromHexError) (bytes : List ℕ) → result_ok r ≡ Some bytes → r ≡ Ok bytes
hex_bytes (Ok found) bytes e = cc
hex_bytes (Err fault) bytes e = cc

all_bytes : (bytes : List ℕ) → IsBytes bytes → All (λ b. b < 256) bytes
all_bytes bytes h k d within = subst (λ b. b < 256) (get_or_default bytes k 0 d within) (h k)

hex_in_range : (d : Data) (bytes : List ℕ) → hex_form d ≡ Some bytes → All (λ b. b < 256) bytes
hex_in_range d bytes e =
    option_and_then_some (λ text. result_ok (decode_of text)) (as_str d) bytes e
    (λ text is gives. all_bytes bytes (decode_of-ok text bytes (hex_bytes (decode_of text) bytes gives)).3)

write_made : (address : ℕ) (bytes : List ℕ) (w : HostWrite) → ◌≡◌ {A = Option HostWrite} (Some (record { address = address; bytes = bytes })) (Some w)
    → address < 2 ^ 32 → All (λ b. b < 256) bytes → IsWriteInRange w
write_made address bytes w e small fits =
    let is : ◌≡◌ {A = HostWrite} (record { address = address; bytes = bytes }) w = cc in
    subst IsWriteInRange is (record { address = small; bytes = fits })

write_in_range : (d : Data) (w : HostWrite) → write_form d ≡ Some w → IsWriteInRange w
write_in_range d w e =
    let two = then_some (only_length 2 d) _ w e in
    let address = then_some (item_form 0 (count_form 0 (2 ^ 32 - 1)) d) _ w two.2 in
    let bytes = then_some (item_form 1 hex_form d) _ w address.2 in
    let small = option_and_then_some (count_form 0 (2 ^ 32 - 1)) (at 0 d) address.0 address.1 (λ a is gives. (counted 0 (2 ^ 32 - 1) a address.0 gives).1) in
    write_made address.0 bytes.0 w bytes.2 (omega (arith, small))
    (option_and_then_some hex_form (at 1 d) bytes.0 bytes.1 (λ b is gives. hex_in_range b bytes.0 gives))

answer_made : (results : List ℤ) (writes : List HostWrite) (a : HostAnswer) → ◌≡◌ {A = Option HostAnswer} (Some (record { results = results; writes = writes })) (Some a)
    → All IsWriteInRange writes → All IsWriteInRange a.writes
answer_made results writes a e h =
    let is : ◌≡◌ {A = HostAnswer} (record { results = results; writes = writes }) a = cc in
    subst (λ (b : HostAnswer). All IsWriteInRange b.writes) is h

answer_in_range : (d : Data) (a : HostAnswer) → answer_form d ≡ Some a → All IsWriteInRange a.writes
answer_in_range d a e =
    let keys = then_some (only_keys (codes "results" ∷ codes "writes" ∷ []) d) _ a e in
    let results = then_some (field_form (codes "results") (list_form integer_form) d) _ a keys.2 in
    let writes = then_some (field_form (codes "writes") (list_form write_form) d) _ a results.2 in
    answer_made results.0 writes.0 a writes.2
    (option_and_then_some (list_form write_form) (get (codes "writes") d) writes.0 writes.1
    (λ list is gives. all_of_list write_form IsWriteInRange write_in_range list writes.0 gives))

abbrev IsAnswerInRange : HostAnswer → Type 0
IsAnswerInRange a = All IsWriteInRange a.writes

hosts_in_range : (o : Option Data) (hosts : List HostAnswer) → form_or [] (list_form answer_form) o ≡ Some hosts → All IsAnswerInRange hosts
hosts_in_range None hosts e = let is : [] ≡ hosts = cc in subst (All IsAnswerInRange) is (All-nil IsAnswerInRange)
hosts_in_range (Some d) hosts e = all_of_list answer_form IsAnswerInRange answer_in_range d hosts e

script_made : (t s : Script) → ◌≡◌ {A = Result Script ℕ} (Ok t) (Ok s) → IsScriptInRange t → IsScriptInRange s
script_made t s e h = let is : t ≡ s = cc in subst IsScriptInRange is h

-- what the form gives is in range
pub script_in_range : (d : Data) (s : Script) → script_form d ≡ Ok s → IsScriptInRange s
script_in_range d s e =
    let keys = bind_ok (keys_part d) _ s e in
    let calls = bind_ok (calls_part d) _ s keys.2 in
    let hosts = bind_ok (part 3 (field_or (codes "host") [] (list_form answer_form) d)) _ s calls.2 in
    let globals = bind_ok (part 4 (field_or (codes "globals") [] (list_form integer_form) d)) _ s hosts.2 in
    let pages = bind_ok (part 5 (field_or (codes "pages") 1024 (count_form 0 4096) d)) _ s globals.2 in
    let depth = bind_ok (part 6 (field_or (codes "depth") 10000 (count_form 1 100000) d)) _ s pages.2 in
    let steps = bind_ok (part 7 (field_or (codes "steps") 10000000 (count_form 1 1000000000000) d)) _ s depth.2 in
    let few_pages = limited_at 1024 0 4096 (get (codes "pages") d) pages.0 (omega arith) (omega arith) (part_ok 5 _ pages.0 pages.1) in
    let few_frames = limited_at 10000 1 100000 (get (codes "depth") d) depth.0 (omega arith) (omega arith) (part_ok 6 _ depth.0 depth.1) in
    let few_steps = limited_at 10000000 1 1000000000000 (get (codes "steps") d) steps.0 (omega arith) (omega arith) (part_ok 7 _ steps.0 steps.1) in
    script_made (record { calls = calls.0; hosts = hosts.0; globals = globals.0; pages = pages.0; depth = depth.0; steps = steps.0 }) s steps.2 (record {
      pages = few_pages.1;
      some_depth = few_frames.0;
      depth = few_frames.1;
      some_steps = few_steps.0;
      steps = few_steps.1;
      writes = hosts_in_range (get (codes "host") d) hosts.0 (part_ok 3 _ hosts.0 hosts.1);
    })

-- so is what was read
pub read_in_range : (r : Result Script ScriptFault) (d : Data) → ReadsPart r (script_form d) → IfOk r IsScriptInRange
read_in_range (Ok s) d e = script_in_range d s e
read_in_range (Err fault) d e = tt
