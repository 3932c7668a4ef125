use Rattle.writing.proofs.Trips.{round_trip}
use Rattle.writing.proofs.trip.round_trip_holds.Goals as goal

pub returns : goal.returns
returns c = round_trip
