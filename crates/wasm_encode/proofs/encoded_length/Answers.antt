use Rattle.wasm_encode.proofs.Rooms.{bodies_room}
use Rattle.wasm_encode.proofs.encoded_length.Goals as goal

pub entries_length-bodies-requires : goal.entries_length-bodies-requires
entries_length-bodies-requires c = rw c.as_slice.ensures (bodies_room c.args.m.now c.requires.room)
