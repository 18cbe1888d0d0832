use Rattle.std.proofs.Common.{◌≡◌, ◌≢◌, ℕ, List, Some, option_map, arith}
use Rattle.std.specs.BTreeMap.{get_by_text}
use Rattle.std.proofs.lemmas.Map.Text.{text_keys}
use Rattle.outside_io.proofs.memory_shelf.put_under.Goals as goal

-- the key has the name's bytes, so only that name was changed
pub returns-clause-written : goal.returns-clause-written
returns-clause-written c =
    let there : option_map (λ bytes. bytes.items) (get_by_text c.insert.new.self c.args.name.now) ≡ Some c.args.bytes.now = grind (arith, text_keys) in
    let others : (other : List ℕ) → other ≢ c.args.name.now
    → option_map (λ bytes. bytes.items) (get_by_text c.insert.new.self other) ≡ option_map (λ bytes. bytes.items) (get_by_text c.args.held.now other) =
    λ other apart. grind (arith, text_keys) in
    (there, others)
