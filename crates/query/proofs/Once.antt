-- Taking each once leaves none twice, and all that there were.
use mathlib.Core.Path.{◌≡◌, refl, ap}
use mathlib.Core.Bool.{Bool, true, false, ◌||◌}
use Rattle.query.specs.Data.{pick, Data, Datas, same, is_in, once, none, more}
use Rattle.query.specs.Laws.{twice, EachOnce}
use Rattle.query.proofs.Same.{same→≡}

once_in : (d : Data) (ds : Datas) → is_in d (once ds) ≡ is_in d ds
unfolding once is_in pick
once_in d none = refl
once_in d (more e es) = by (is_in e (once es)) refl (same d e) refl (once_in d es)
  where
    by : (b : Bool) → is_in e (once es) ≡ b → (c : Bool) → same d e ≡ c → is_in d (once es) ≡ is_in d es →
        is_in d (pick b (once es) (more e (once es))) ≡ (same d e || is_in d es)
    by true p true q ih = rw q (rw (same→≡ d e q) p)
    by true p false q ih = rw q ih
    by false p c q ih = ap (λ (v : Bool). same d e || v) ih

pub once_twice : (ds : Datas) → twice (once ds) ≡ false
unfolding once twice pick
once_twice none = refl
once_twice (more e es) = by (is_in e (once es)) refl (once_twice es)
  where
    by : (b : Bool) → is_in e (once es) ≡ b → twice (once es) ≡ false → twice (pick b (once es) (more e (once es))) ≡ false
    by true p ih = ih
    by false p ih = rw p ih

pub each_once : EachOnce
unfolding EachOnce
each_once ds d = (once_twice ds, once_in d ds)
