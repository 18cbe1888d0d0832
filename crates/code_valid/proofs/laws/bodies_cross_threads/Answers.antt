use denote.Param.Send.{sendable}
use Rattle.std.proofs.Crossing.{crosses}
use Rattle.module_ast.proofs.Crosses.{module_crosses}
use Rattle.code_valid.proofs.laws.bodies_cross_threads.Goals as goal

pub is_send_and_sync-requires-2-send-T : goal.is_send_and_sync-requires-2-send-T
is_send_and_sync-requires-2-send-T c κs = search (sendable, crosses, module_crosses) depth 60

pub is_send_and_sync-requires-2-sync-T : goal.is_send_and_sync-requires-2-sync-T
is_send_and_sync-requires-2-sync-T c κs = search (sendable, crosses, module_crosses) depth 60
