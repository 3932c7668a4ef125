-- Kinds of values: what a value is, or that it isn't of that kind.
use Rattle.std.specs.Prelude.{ℕ, Bool, Ok, Err, Result}
use Rattle.values.specs.declared.value.Place.{Place}
use Rattle.values.specs.declared.value.Value.{Value}
use Rattle.values.specs.declared.value.Value.TheVariants.{Nothing, Number, Truth, Text, Bag, Record, Left, Right}
use Rattle.operators.specs.declared.came.Stop.{Stop}
use Rattle.operators.specs.declared.came.Stop.TheVariants.{Wrong}

abbrev pub as_number : Value → Result ℕ Stop
as_number Nothing = Err Wrong
as_number (Number n) = Ok n
as_number (Truth b) = Err Wrong
as_number (Text p) = Err Wrong
as_number (Bag p) = Err Wrong
as_number (Record p) = Err Wrong
as_number (Left k) = Err Wrong
as_number (Right k) = Err Wrong

abbrev pub as_truth : Value → Result Bool Stop
as_truth Nothing = Err Wrong
as_truth (Number n) = Err Wrong
as_truth (Truth b) = Ok b
as_truth (Text p) = Err Wrong
as_truth (Bag p) = Err Wrong
as_truth (Record p) = Err Wrong
as_truth (Left k) = Err Wrong
as_truth (Right k) = Err Wrong

abbrev pub as_bag : Value → Result Place Stop
as_bag Nothing = Err Wrong
as_bag (Number n) = Err Wrong
as_bag (Truth b) = Err Wrong
as_bag (Text p) = Err Wrong
as_bag (Bag p) = Ok p
as_bag (Record p) = Err Wrong
as_bag (Left k) = Err Wrong
as_bag (Right k) = Err Wrong

abbrev pub as_record : Value → Result Place Stop
as_record Nothing = Err Wrong
as_record (Number n) = Err Wrong
as_record (Truth b) = Err Wrong
as_record (Text p) = Err Wrong
as_record (Bag p) = Err Wrong
as_record (Record p) = Ok p
as_record (Left k) = Err Wrong
as_record (Right k) = Err Wrong
