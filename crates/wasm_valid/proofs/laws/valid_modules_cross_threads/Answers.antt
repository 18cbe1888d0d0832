use denote.Param.Send.{sendable}
use Rattle.wasm_valid.proofs.Crosses.{ValidModule-send, ValidModule-sync}
use Rattle.wasm_valid.proofs.laws.valid_modules_cross_threads.Goals as goal

pub is_send_and_sync-requires-send-T : goal.is_send_and_sync-requires-send-T
is_send_and_sync-requires-send-T c κs = search (sendable, ValidModule-send)

pub is_send_and_sync-requires-sync-T : goal.is_send_and_sync-requires-sync-T
is_send_and_sync-requires-sync-T c κs = search (sendable, ValidModule-sync)
