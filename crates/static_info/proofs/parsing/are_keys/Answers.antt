use Rattle.std.proofs.Common.{ap, arith}
use Rattle.serde_json.specs.View.{members_view}
use Rattle.static_info.specs.Shape.{keys_of}
use Rattle.static_info.proofs.KeysAlong.{key_follows, key_differs, keys_end}
use Rattle.static_info.proofs.parsing.are_keys.Goals as goal

pub returns-then-ne : goal.returns-then-ne
returns-then-ne c =
    let rest = ap (λ ms. keys_of (members_view ms)) c.in-Some.ensures.steps in
    key_differs c.args.names.now _ _ c.loop-key.place _ _ _ _ c.ne.result c.loop-key.invariant.1 (omega arith) rest c.as_str.ensures.value c.ne.ensures c.if-ne.true

pub loop-key-preserved : goal.loop-key-preserved
loop-key-preserved c =
    let rest = ap (λ ms. keys_of (members_view ms)) c.in-Some.ensures.steps in
    (omega arith, key_follows c.args.names.now _ _ c.loop-key.place _ _ _ _ c.ne.result c.loop-key.invariant.1 (omega arith) rest c.as_str.ensures.value c.ne.ensures c.if-ne.false)

pub returns : goal.returns
returns c = keys_end c.args.names.now _ _ c.loop-key.place c.loop-key.invariant.1 (omega arith) (ap (λ ms. keys_of (members_view ms)) c.in-None.ensures.steps.0)
