-- What a result is of which only the value is taken.
use Rattle.std.proofs.Common.{◌≡◌, Some, None, Result, Ok, Err, refl}
use Rattle.std.specs.Result.{result_ok}

pub ok_some : {A E : Type 0} (r : Result A E) (x : A) → Some x ≡ result_ok r → r ≡ Ok x
ok_some (Ok y) x e = cc
ok_some (Err y) x e = absurd (cc)

pub ok_none : {A E : Type 0} (r : Result A E) → None ≡ result_ok r → (y : E) × (r ≡ Err y)
ok_none (Ok y) e = absurd (cc)
ok_none (Err y) e = (y, refl)
