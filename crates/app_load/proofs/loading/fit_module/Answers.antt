-- The decoder's answer says what the bytes are.
use Rattle.std.proofs.Common.{ap, inl, refl, Err}
use Rattle.app_load.specs.Texts.{malformed_text, floats_text, limit_text}
use Rattle.app_load.specs.Wants.{a_module, is_malformed, has_floats, over_limit}
use Rattle.app_load.proofs.Loaded.{refused_as}
use Rattle.app_load.proofs.loading.fit_module.Goals as goal

pub returns-in-Err-Malformed-clause-refused : goal.returns-in-Err-Malformed-clause-refused
returns-in-Err-Malformed-clause-refused c =
    refused_as (a_module c.args.limits.now) c.args.name.now c.args.bytes.now 6 (malformed_text c.args.name.now _) _
    (c.refused.ensures _ c.format.ensures.ok) (is_malformed _ (c.in-Err-Malformed.ensures.malformed _ (ap Err c.in-Err-Malformed.field-0-is)))

pub returns-in-Err-Float-clause-refused : goal.returns-in-Err-Float-clause-refused
returns-in-Err-Float-clause-refused c =
    refused_as (a_module c.args.limits.now) c.args.name.now c.args.bytes.now 7 (floats_text c.args.name.now _) _
    (c.refused-in-Err-Float.ensures _ c.format-in-Err-Float.ensures.ok) (has_floats _ (c.in-Err-Float.ensures.float _ (ap Err c.in-Err-Float.field-0-is)))

pub returns-in-Err-Limit-clause-refused : goal.returns-in-Err-Limit-clause-refused
returns-in-Err-Limit-clause-refused c =
    refused_as (a_module c.args.limits.now) c.args.name.now c.args.bytes.now 7 (limit_text c.args.name.now _ _) _
    (c.refused-in-Err-Limit.ensures _ c.limit_line.ensures) (over_limit _ _ (c.in-Err-Limit.ensures.limit _ _ (ap Err c.in-Err-Limit.field-0-is)))

pub returns-in-Err-NoMemory-clause-refused : goal.returns-in-Err-NoMemory-clause-refused
returns-in-Err-NoMemory-clause-refused c = inl refl
