-- What a call that fails still keeps is a front of the bytes.
use Rattle.std.proofs.Common.{◌≡◌, ℕ, List, Some, take, drop, inr, take-append-drop}
use Rattle.outside_io.specs.Outside.{Contents, IsPrefixOf, Wrote, WrotePart, Printed, PrintedPart}

-- the first bytes are a front of all
pub take-IsPrefixOf : (count : ℕ) (bytes : List ℕ) → IsPrefixOf (take count bytes) bytes
take-IsPrefixOf count bytes = (drop count bytes, take-append-drop count bytes)

-- to write the first bytes is to write a part
pub wrote_front : (name front bytes : List ℕ) (count : ℕ) (old new : Contents) →
    front ≡ take count bytes → Wrote name front (Some old) (Some new) → WrotePart name bytes (Some old) (Some new)
wrote_front name front bytes count old new is_front wrote =
    (inr (take count bytes, (rw is_front at wrote).0, take-IsPrefixOf count bytes), wrote.1)

-- to print the first bytes is to print a part
pub printed_front : (front bytes : List ℕ) (count : ℕ) (old new : List ℕ) →
    front ≡ take count bytes → Printed front (Some old) (Some new) → PrintedPart bytes (Some old) (Some new)
printed_front front bytes count old new is_front printed =
    (take count bytes, take-IsPrefixOf count bytes, rw is_front at printed)
