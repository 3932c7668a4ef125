-- That a table is sound can be shown in one way only, so that the table itself can carry it.
use Rattle.std.specs.Prelude.{ℕ, suc, List, [], ◌∷◌, length, slice_index_or}
use Rattle.std.specs.Coded.{×_prop, Unit-prop, le_prop, Coded-set, coded_ℕ}
use Rattle.types.specs.Shapes.{Shape, s_unit, s_num, s_truth, s_text, s_bag, s_either, s_rec, shapes, Rising, Below, Good}
use Rattle.types.specs.Tables.{Lies, Sound}
use Rattle.types.specs.declared.entry.Field.{Field}
use Rattle.types.specs.declared.entry.Entry.{Entry}
use Rattle.types.specs.declared.entry.Entry.TheVariants.{Unit as Unit', Num, Truth, Text, Bag, Either, Record}

rising_prop : (w b at : ℕ) (fs : List Field) → IsProp (Rising w b at fs)
unfolding Rising
rising_prop w b at [] = Unit-prop
rising_prop w b at (f ∷ fs) = λ p q i. (le_prop p.0 q.0 i, le_prop p.1 q.1 i, le_prop p.2 q.2 i, rising_prop w b (suc f.name) fs p.3 q.3 i)

below_prop : (w b : ℕ) (s : Shape) → IsProp (Below w b s)
unfolding Below
below_prop w b s_unit = Unit-prop
below_prop w b s_num = Unit-prop
below_prop w b s_truth = Unit-prop
below_prop w b s_text = Unit-prop
below_prop w b (s_bag j) = le_prop
below_prop w b (s_either j k) = ×_prop le_prop le_prop
below_prop w b (s_rec fs) = rising_prop w b 0 fs

lies_prop : (top : ℕ) (e : Entry) → IsProp (Lies top e)
lies_prop top Unit' = Unit-prop
lies_prop top Num = Unit-prop
lies_prop top Truth = Unit-prop
lies_prop top Text = Unit-prop
lies_prop top (Bag j) = Unit-prop
lies_prop top (Either p) = Unit-prop
lies_prop top (Record p) = le_prop

good_prop : (w : ℕ) (ss : List Shape) → IsProp (Good w ss)
good_prop w ss a b = λ i. record {
  parts = λ n h. below_prop w n (slice_index_or ss n s_unit) (a.parts n h) (b.parts n h) i;
  once = λ n m h k e. Coded-set coded_ℕ n m (a.once n m h k e) (b.once n m h k e) i;
}

pub sound_prop : (w : ℕ) (es : List Entry) (fs : List Field) → IsProp (Sound w es fs)
sound_prop w es fs a b = λ i. record {
  lies = λ n h. lies_prop (length fs) (slice_index_or es n Unit') (a.lies n h) (b.lies n h) i;
  good = good_prop w (shapes fs es) a.good b.good i;
}
