-- Data that stand in a row, loaded one by one: what holds on the way.
use Rattle.std.proofs.Common.{◌≡◌, ℕ, suc, ◌+◌, ◌-◌, ◌*◌, ◌<◌, ◌≤◌, true, List, length, Some, None, sym, refl, ap, ◌∙◌, subst, arith, length-append}
use Rattle.query.specs.Data.{Data, Datas, none, more, join, how_many}
use Rattle.query.specs.Query.{Ty}
use Rattle.query.specs.Types.{is_of}
use Rattle.query.specs.Size.{size_d, size_ds}
use Rattle.format.specs.Wire.{write_data, write_datas, write_ty, FitsTy, FitsData, FitsDatas, data_of, types}
use Rattle.format.specs.Nodes.{Stands}
use Rattle.format.specs.QueryLaws.{types_way}
use Rattle.values.specs.Memory.{Kept, Stored, HoldsAll}
use Rattle.values.specs.Height.{height_ty}
use Rattle.values.proofs.Frame.{kept_refl, kept_trans, stored_kept}
use Rattle.loading.specs.declared.loaded.Typing.{Typing}
use Rattle.loading.specs.declared.loaded.Typing.TheVariants.{Shared, Own}
use Rattle.loading.specs.Loads.{Laid, Ready, Loads, LiesInside, next_type, EachTyped, RowReady, SharedLong, LoadsRow}
use Rattle.loading.proofs.Spots.{At, stands_at, at_same, at_first, at_second}
use Rattle.loading.proofs.Rows.{join_none, join_one, many_size, Filling, fill_none, fill_under, fill_all, fill_more}

-- the first of those that are to come
pub record First (y : Typing) (bs : List ℕ) (next type depth : ℕ) (ds : Datas) : Type 0 where
  pub item : Data
  pub others : Datas
  pub own : Ty
  pub is : ds ≡ more item others
  pub of : is_of item own ≡ true
  pub shallow : height_ty own < depth
  pub stand : At bs next (write_data item)
  pub stand_others : At bs (next + length (write_data item)) (write_datas others)
  pub stands_type : Stands types bs type own
  pub typed : EachTyped y bs (next_type y type (length (write_ty own))) depth others
  pub fit : FitsData item
  pub fit_others : FitsDatas others
  pub fit_type : FitsTy own
  pub many : how_many ds ≡ suc (how_many others)
  pub size : size_ds ds ≡ size_d item + size_ds others
  pub long : length (write_datas ds) ≡ length (write_data item) + length (write_datas others)

first : (y : Typing) (bs : List ℕ) (next type depth : ℕ) (ds : Datas) → 0 < how_many ds → EachTyped y bs type depth ds → At bs next (write_datas ds) → FitsDatas ds → First y bs next type depth ds
unfolding how_many write_datas FitsDatas size_ds EachTyped
first y bs next type depth none l e a f = absurd (omega arith)
first y bs next type depth (more d ds) l e a f =
    record {
      item = d;
      others = ds;
      own = e.0;
      is = refl;
      of = e.3;
      shallow = e.4;
      stand = at_first (write_data d) (write_datas ds) a;
      stand_others = at_second (write_data d) (write_datas ds) a;
      stands_type = e.1;
      typed = e.5;
      fit = f.0;
      fit_others = f.1;
      fit_type = e.2;
      many = refl;
      size = refl;
      long = length-append (write_data d) (write_datas ds);
    }

none_left : (ds : Datas) → how_many ds ≡ 0 → ds ≡ none
unfolding how_many
none_left none e = refl
none_left (more d ds) e = absurd (omega (arith, e))

thrift : (high i top count : ℕ) (es ds : Datas) → high + 5 * size_ds es + 3 * i ≤ top + 3 * count + 5 * size_ds ds → i ≡ count → high ≤ top + 5 * size_ds ds
thrift high i top count es ds h e = omega (arith, h, e)

far : (next at : ℕ) (es : Datas) (k : ℕ) → es ≡ none → next + length (write_datas es) ≡ at + k → next - at ≡ k
unfolding write_datas
far next at es k z h = let l : length (write_datas es) ≡ 0 = ap (λ x. length (write_datas x)) z in omega (arith, h, l)

next_within : (y : Typing) (type k end : ℕ) → type + k ≤ end → next_type y type k ≤ end
next_within Shared type k end h = omega arith
next_within Own type k end h = h

-- where the next type stands: where the first one does, if they share it
abbrev pub Onward : Typing → ℕ → ℕ → Type 0
Onward Shared kind type = type ≡ kind
Onward Own kind type = kind ≤ type

onward_begun : (y : Typing) (kind : ℕ) → Onward y kind kind
onward_begun Shared kind = refl
onward_begun Own kind = omega arith

onward_next : (y : Typing) (kind type k : ℕ) → Onward y kind type → Onward y kind (next_type y type k)
onward_next Shared kind type k o = o
onward_next Own kind type k o = omega (arith, o)

onward_below : (y : Typing) (kind type : ℕ) → Onward y kind type → kind ≤ type
onward_below Shared kind type o = omega (arith, o)
onward_below Own kind type o = o

-- one that was loaded tells how long its type is
long_told : (y : Typing) (bs : List ℕ) (kind type : ℕ) (t : Ty) (k : ℕ) → Onward y kind type → Stands types bs type t → FitsTy t → k ≡ length (write_ty t) → SharedLong y bs kind k
long_told Shared bs kind type t k o s f e = λ u z g.
    let w : Stands types bs kind t = subst (λ x. Stands types bs x t) o s in
    e ∙ ap (λ x. length (write_ty x)) (types_way t u w.rest z.rest f g (sym w.is ∙ z.is)).0
long_told Own bs kind type t k o s f e = tt

module _ (y : Typing) (bs : List ℕ) (at kind count depth top : ℕ) where
  pub record Going (g : RowReady y bs at kind count depth top) (n : List ℕ) (i high next type last : ℕ) : Type 0 where
    pub done : Datas
    pub to_come : Datas
    pub is : g.datas ≡ join done to_come
    pub many : how_many to_come + i ≡ count
    pub typed : EachTyped y bs type depth to_come
    pub stand : At bs next (write_datas to_come)
    pub fit : FitsDatas to_come
    pub long : next + length (write_datas to_come) ≡ at + length (write_datas g.datas)
    pub filling : Filling bs g.used top count n i high done
    pub thrifty : high + 5 * size_ds to_come + 3 * i ≤ top + 3 * count + 5 * size_ds g.datas
    pub shared : 0 < i → SharedLong y bs kind last

  -- `i` data were loaded: free memory begins at `high`; the next one stands at `next`, and its type at `type`; the last one's type has `last` bytes
  pub record Turn (m n : List ℕ) (i high next type last : ℕ) : Type 0 where
    pub kept : Kept top m n
    pub above : top + 3 * count ≤ high
    pub after : at ≤ next
    pub before : next ≤ length bs
    pub before_type : type ≤ length bs
    pub before_end : kind + last ≤ length bs
    pub onward : Onward y kind type
    pub going : (g : RowReady y bs at kind count depth top) → Going g n i high next type last

  begun : (m : List ℕ) → at ≤ length bs → kind ≤ length bs → Turn m m 0 (top + 3 * count) at kind 0
  unfolding join
  begun m l k = record {
    kept = kept_refl;
    above = omega arith;
    after = omega arith;
    before = l;
    before_type = k;
    before_end = omega (arith, k);
    onward = onward_begun y kind;
    going = λ g. record {
      done = none;
      to_come = g.datas;
      is = refl;
      many = omega (arith, g.many);
      typed = g.typed;
      stand = record { within = g.within; rest = g.rest; is = g.is };
      fit = g.fits;
      long = refl;
      filling = fill_none bs g.used top count m;
      thrifty = omega arith;
      shared = λ z. absurd (omega (arith, z));
    };
  }

  pub begin : (m n : List ℕ) (high : ℕ) → n ≡ m → high ≡ top + 3 * count → at ≤ length bs → kind ≤ length bs → Turn m n 0 high at kind 0
  begin m n high e q l k = subst (λ h. Turn m n 0 h at kind 0) (sym q) (subst (λ y. Turn m y 0 (top + 3 * count) at kind 0) (sym e) (begun m l k))

  pub no_room : (m : List ℕ) (end : ℕ) → length m < top + 3 * count → LoadsRow y bs at kind count depth top m end None
  no_room m end l = record { means = λ g. omega (arith, g.many, many_size g.datas) }

  module _ (m n : List ℕ) (i high next type last : ℕ) (t : Turn m n i high next type last) where
    pub finished : i ≡ count → (start : ℕ) → LoadsRow y bs at kind count depth top n high (Some (record { start = start; length = next - at; typed = last }))
    finished e start = record {
      means = λ g.
          let w = t.going g in
          let z = none_left w.to_come (omega (arith, w.many)) in
          let x : g.datas ≡ w.done = w.is ∙ ap (λ x. join w.done x) z ∙ join_none w.done in
          let a = fill_all bs g.used top count n i high w.done g.low t.above w.filling e in
          record {
            now_used = a.now_used;
            grown = a.grown;
            run = a.run;
            lie = subst (λ x. HoldsAll bs n a.now_used x top count) (sym x) a.lie;
            thrifty = thrift high i top count w.to_come g.datas w.thrifty e;
            long = far next at w.to_come (length (write_datas g.datas)) z w.long;
            shared = λ l. w.shared (omega (arith, l, e));
          };
    }

    module _ (lt : i < count) where
      nexts : (g : RowReady y bs at kind count depth top) → First y bs next type depth (t.going g).to_come
      nexts g = let w = t.going g in first y bs next type depth w.to_come (omega (arith, w.many)) w.typed w.stand w.fit

      abbrev item_ready : (g : RowReady y bs at kind count depth top) → Ready bs next type depth high
      item_ready g =
          let w = t.going g in
          let x = nexts g in
          record {
            datum = x.item;
            type = x.own;
            used = w.filling.now_used;
            stands = stands_at data_of bs next x.item x.stand;
            stands_type = x.stands_type;
            fits = x.fit;
            fits_type = x.fit_type;
            is = x.of;
            shallow = x.shallow;
            low = fill_under bs g.used top count n i high w.done g.low t.above w.filling;
          }

      pub item_none : (n' : List ℕ) (end : ℕ) → Loads bs next type depth high n' None → LoadsRow y bs at kind count depth top n' end None
      item_none n' end f = record {
        means = λ g.
            let w = t.going g in
            let x = nexts g in
            omega (arith, f.means (item_ready g), w.thrifty, w.many, x.many, x.size, many_size x.others);
      }

      module _ (l : Laid) (n' n'' : List ℕ) (kept : Kept high n n') (inside : LiesInside bs next type high n' l) (f : Loads bs next type depth high n' (Some l)) (st : Stored (top + 3 * i) l.value n' n'') where
        pub turned : Turn m n'' (i + 1) l.top (next + l.length) (next_type y type l.typed) l.typed
        turned = record {
          kept = kept_trans (kept_trans t.kept kept (omega (arith, t.above))) (stored_kept {top = top} st (omega arith)) (omega arith);
          above = omega (arith, t.above, inside.above);
          after = omega (arith, t.after);
          before = inside.datum;
          before_type = next_within y type l.typed (length bs) inside.type;
          before_end = omega (arith, onward_below y kind type t.onward, inside.type);
          onward = onward_next y kind type l.typed t.onward;
          going = λ g.
              let w = t.going g in
              let x = nexts g in
              let c = f.means (item_ready g) in
              record {
                done = join w.done (more x.item none);
                to_come = x.others;
                is = w.is ∙ ap (λ z. join w.done z) x.is ∙ sym (join_one w.done x.item x.others);
                many = omega (arith, w.many, x.many);
                typed = subst (λ k. EachTyped y bs (next_type y type k) depth x.others) (sym c.long_type) x.typed;
                stand = at_same x.stand_others (ap (λ z. next + z) (sym c.long)) refl;
                fit = x.fit_others;
                long = omega (arith, w.long, x.long, c.long);
                filling = fill_more bs g.used top count n i high w.done g.low t.above w.filling x.item l.value n' n'' c.now_used l.top lt kept c.grown inside.above c.holds st;
                thrifty = omega (arith, w.thrifty, x.size, c.thrifty);
                shared = λ z. long_told y bs kind type x.own l.typed t.onward x.stands_type x.fit_type c.long_type;
              };
        }
