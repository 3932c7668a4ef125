-- Things without parts are trees too: a head alone. So are names.
use Rattle.std.specs.Prelude.{ℕ, ◌<◌, List, [], ◌++◌, length, refl}
use Rattle.std.proofs.Common.{sym, ap, ◌∙◌, arith, length-append}
use Rattle.std.proofs.lemmas.List.{append-nil}
use Rattle.format.specs.Coding.{Coding, le, name, writes, counted, Inhabited}
use Rattle.format.specs.Reading.{OneWay}
use Rattle.format.specs.Lists.{none_of, bytes_none}
use Rattle.format.specs.Bytes.{length_le}
use Rattle.format.specs.Codings.{name_way}
use Rattle.format.specs.Trees.{Laws, counted_way, inhabited}

abbrev pub no_parts : (S : Coding) → S.T → ℕ
no_parts S x = 0

pub alone_laws : (S : Coding) → OneWay S → ((x : S.T) → S.Fits x → 0 < length (S.write x)) → (x : S.T) → S.Fits x → Laws S S (no_parts S)
alone_laws S way long x f =
    record {
      splits =
          record {
            make = λ h us. h;
            fits = λ h us fh fu. fh;
            written = λ h us fh fu. sym (append-nil (S.write h)) ∙ ap (λ (v : List S.T). S.write h ++ writes S v) (sym (none_of us fu.0));
            out = λ u fu. record { a = u; b = []; a_fits = fu; b_fits = (refl, tt); is = refl };
          };
      one_way = way;
      long = long;
      leaf = x;
      leaf_fits = f;
      leaf_alone = refl;
    }

pub name_laws : Laws name name (no_parts name)
unfolding le
name_laws = alone_laws name name_way (λ n f. omega (arith, length-append (le 4 (length n)) n, length_le 4 (length n))) [] (omega arith, bytes_none)

pub names_way : OneWay (counted name)
names_way = counted_way name name (no_parts name) name_laws

pub name_some : Inhabited name
name_some = inhabited name name (no_parts name) name_laws
