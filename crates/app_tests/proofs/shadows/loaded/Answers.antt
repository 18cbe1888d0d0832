-- What is loaded may get hooks.
use Rattle.wasabi_app.proofs.Tagged.{followable}
use Rattle.app_tests.proofs.shadows.loaded.Goals as goal

pub returns-in-Ok : goal.returns-in-Ok
returns-in-Ok g c =
    let is = rw c.narrow.ensures at c.in-Ok.ensures.ok in
    followable is.bytes c.in-Ok.valid is.spelled.1 is.spelled.0.within is.read_well.short is.spelled.0.spelled
