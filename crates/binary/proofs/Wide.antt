-- Records in order, and how many fields they have.
use Rattle.std.proofs.Common.{◌≡◌, suc, ◌≤◌, true, List, length, sym, refl, ap, subst, arith}
use Rattle.query.specs.Data.{Name, Fields, no_field, field, after_name, in_order, both, less_text}
use Rattle.query.specs.Query.{Tys, no_ty, ty}
use Rattle.query.specs.Types.{sounds, first_after, fields_are, both_tys}
use Rattle.query.proofs.Tests.{and_i}
use Rattle.query.proofs.OfType.{field_out, no_ty_out, both_of}
use Rattle.query.proofs.SoundRecords.{sounds_out}
use Rattle.bounds.specs.Names.{width, nameds}
use Rattle.bounds.proofs.Widths.{as_wide, no_wider}
use Rattle.records.specs.Parts.{how_many_fields}

comes_after : (n m : Name) (fs : Fields) (ts : Tys) → n ≡ m → fields_are fs ts ≡ true → first_after m ts ≡ true → after_name n fs ≡ true
unfolding after_name first_after
comes_after n m no_field ts e h k = refl
comes_after n m (field a d fs) no_ty e h k = absurd (no_ty_out a d fs h)
comes_after n m (field a d fs) (ty b t ts) e h k = let o = field_out a d fs b t ts h in subst (λ (x : Name). less_text x a ≡ true) (sym e) (subst (λ (y : Name). less_text m y ≡ true) (sym o.0) k)

-- a record is in order if its type is
pub record_in_order : (fs : Fields) (ts : Tys) → fields_are fs ts ≡ true → sounds ts ≡ true → in_order fs ≡ true
unfolding in_order
record_in_order no_field ts h s = refl
record_in_order (field n d fs) no_ty h s = absurd (no_ty_out n d fs h)
record_in_order (field n d fs) (ty m t ts) h s =
    let o = field_out n d fs m t ts h in
    let p = sounds_out m t ts s in
    and_i (after_name n fs) (in_order fs) (comes_after n m fs ts o.0 o.2 p.1) (record_in_order fs ts o.2 p.2)

many_wide : (fs : Fields) → how_many_fields fs ≡ width fs
unfolding how_many_fields width
many_wide no_field = refl
many_wide (field n d fs) = ap suc (many_wide fs)

-- two records in one have at most as many fields as there are names
pub both_narrow : (ns : List Name) (fs gs : Fields) (ts us : Tys) → fields_are fs ts ≡ true → fields_are gs us ≡ true → sounds (both_tys ts us) ≡ true → nameds ns (both_tys ts us) ≡ true → how_many_fields (both fs gs) ≤ length ns
both_narrow ns fs gs ts us h k s n = omega (arith, many_wide (both fs gs), as_wide (both fs gs) (both_tys ts us) (both_of fs gs ts us h k), no_wider ns (both_tys ts us) s n)
