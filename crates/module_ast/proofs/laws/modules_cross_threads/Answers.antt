use denote.Param.Send.{sendable}
use Rattle.module_ast.proofs.Crosses.{module_crosses}
use Rattle.module_ast.proofs.laws.modules_cross_threads.Goals as goal

pub is_send_and_sync-requires-send-T : goal.is_send_and_sync-requires-send-T
is_send_and_sync-requires-send-T c κs = search (sendable, module_crosses)

pub is_send_and_sync-requires-sync-T : goal.is_send_and_sync-requires-sync-T
is_send_and_sync-requires-sync-T c κs = search (sendable, module_crosses)
