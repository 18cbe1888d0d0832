use Rattle.hook_mono.proofs.KeyNumbers.{same_keys}
use Rattle.hook_mono.proofs.laws.keys_differ.Goals as goal

pub returns : goal.returns
returns c = same_keys
