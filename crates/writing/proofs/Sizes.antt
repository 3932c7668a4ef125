-- Nine numbers a part are enough.
use Rattle.std.proofs.Common.{◌+◌, ◌*◌, ◌≤◌, length, arith, length-append}
use Rattle.query.specs.Data.{Data, unit, num, truth, text, bag, rec, left, right, Datas, none, more, Fields, no_field, field, how_many}
use Rattle.query.specs.Size.{size_d, size_ds, size_fs}
use Rattle.format.specs.Coding.{le, name, writes}
use Rattle.format.specs.Wire.{names, write_names, write_data, write_datas, write_values}
use Rattle.format.specs.Bytes.{length_le}

mutual
  unfolding write_data write_datas write_values names size_d size_ds size_fs

  pub short : (d : Data) → length (write_data d) ≤ 9 * size_d d
  short unit = omega arith
  short (num n) = omega (arith, length_le 8 n)
  short (truth b) = omega arith
  short (text t) = omega (arith, length-append (le 4 (length t)) t, length_le 4 (length t))
  short (bag ds) = omega (arith, length-append (le 4 (how_many ds)) (write_datas ds), length_le 4 (how_many ds), short_all ds)
  short (rec fs) = omega (arith, length-append (write_names (names fs)) (write_values fs), length-append (le 4 (length (names fs))) (writes name (names fs)), length_le 4 (length (names fs)), short_fields fs)
  short (left d) = omega (arith, short d)
  short (right d) = omega (arith, short d)

  short_all : (ds : Datas) → length (write_datas ds) ≤ 9 * size_ds ds
  short_all none = omega arith
  short_all (more d ds) = omega (arith, length-append (write_data d) (write_datas ds), short d, short_all ds)

  short_fields : (fs : Fields) → length (writes name (names fs)) + length (write_values fs) ≤ 9 * size_fs fs
  short_fields no_field = omega arith
  short_fields (field n d fs) =
      omega (arith, length-append (name.write n) (writes name (names fs)), length-append (le 4 (length n)) n, length_le 4 (length n), length-append (write_data d) (write_values fs), short d, short_fields fs)
