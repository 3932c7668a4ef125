-- Which number a request is refused by: that of the first check that it does not pass.
use Rattle.std.proofs.Common.{◌≡◌, ℕ, ◌+◌, ◌<◌, ◌≤◌, Bool, true, false, leb, List, [], ◌∷◌, sym, refl, ap, ◌∙◌, subst, lit<, le-leb}
use borrow.Author.Tests.{lt-leb}
use Rattle.query.specs.Data.{pick}
use Rattle.query.specs.Query.{Ty, Query, Tables}
use Rattle.query.specs.Types.{Schema, type_asked, tables_are}
use Rattle.query.specs.Size.{size_s, size_q, all_sound, some_ty}
use Rattle.query.specs.Promise.{ask, plan, garbled, kind, turned_by, turned, place, thin}
use Rattle.format.specs.Wire.{Request, to_plan, requests, write_request, FitsRequest}
use Rattle.format.specs.Reading.{Garbled}
use Rattle.format.specs.Nodes.{Requested}
use Rattle.format.specs.declared.node.Ask.{Ask}
use Rattle.format.specs.declared.node.Plan.{Plan}
use Rattle.format.specs.declared.node.Request.TheVariants as rn
use Rattle.asking.specs.Passed.{Passed}
use Rattle.asking_desk.specs.Checked.{RefusedBy}
use Rattle.asking_desk.proofs.Requests.{IsToAsk}

-- the number by the outcomes of the checks
by_checks : Bool → Bool → Bool → Bool → ℕ
by_checks small ordered typed of-schema = pick small (pick ordered (pick typed (pick of-schema 0 5) 4) 3) 2

turned_ask : (ss : Schema) (ts : Tables) (q : Query) (w r : ℕ) → turned thin (ask ss ts q w r) ≡ by_checks (leb (size_s ss + size_q q) 8192) (all_sound ss) (some_ty (type_asked ss q)) (tables_are ts ss)
unfolding pick kind turned_by by_checks
turned_ask ss ts q w r = refl

pub garbled_refused : (xs : List ℕ) (lent p : ℕ) → Garbled requests xs p → RefusedBy xs lent 1 p
unfolding pick kind place
garbled_refused xs lent p g = record { asked = garbled p; asks = g; number_is = refl; some = lit< tt; place_is = refl }

pub plan_refused : (xs : List ℕ) (lent : ℕ) (p : Plan) → Requested xs (rn.ToPlan p) → RefusedBy xs lent 6 0
unfolding pick kind place
plan_refused xs lent p r =
    let ss = r.tells.0 in
    let q = r.tells.1 in
    let e : r.request ≡ to_plan ss q = r.tells.2 in
    record {
      asked = plan ss q lent;
      asks = (refl, subst (λ (z : Request). FitsRequest z) e r.fits, r.is ∙ ap (λ (z : Request). write_request z) e);
      number_is = refl;
      some = lit< tt;
      place_is = refl;
    }

module _ (xs : List ℕ) (a : Ask) (o : IsToAsk xs a) (lent : ℕ) where
  refused_at : (n : ℕ) → 0 < n → n ≡ turned thin (ask o.schema o.tables o.query a.work lent) → RefusedBy xs lent n 0
  unfolding place
  refused_at n some e = record { asked = ask o.schema o.tables o.query a.work lent; asks = (refl, o.fits, o.is); number_is = e; some = some; place_is = refl }

  pub too_large : 8192 < size_s o.schema + size_q o.query → RefusedBy xs lent 2 0
  unfolding pick by_checks
  too_large h =
      refused_at 2 (lit< tt)
      (sym (turned_ask o.schema o.tables o.query a.work lent
      ∙ ap (λ (b : Bool). by_checks b (all_sound o.schema) (some_ty (type_asked o.schema o.query)) (tables_are o.tables o.schema)) (lt-leb (size_s o.schema + size_q o.query) 8192 h)))

  module _ (small : size_s o.schema + size_q o.query ≤ 8192) where
    turned_small : turned thin (ask o.schema o.tables o.query a.work lent) ≡ by_checks true (all_sound o.schema) (some_ty (type_asked o.schema o.query)) (tables_are o.tables o.schema)
    turned_small =
        turned_ask o.schema o.tables o.query a.work lent
        ∙ ap (λ (b : Bool). by_checks b (all_sound o.schema) (some_ty (type_asked o.schema o.query)) (tables_are o.tables o.schema)) (le-leb (size_s o.schema + size_q o.query) 8192 small)

    pub out_of_order : all_sound o.schema ≡ false → RefusedBy xs lent 3 0
    unfolding pick by_checks
    out_of_order h = refused_at 3 (lit< tt) (sym (turned_small ∙ ap (λ (b : Bool). by_checks true b (some_ty (type_asked o.schema o.query)) (tables_are o.tables o.schema)) h))

    module _ (sound : all_sound o.schema ≡ true) where
      turned_sound : turned thin (ask o.schema o.tables o.query a.work lent) ≡ by_checks true true (some_ty (type_asked o.schema o.query)) (tables_are o.tables o.schema)
      turned_sound = turned_small ∙ ap (λ (b : Bool). by_checks true b (some_ty (type_asked o.schema o.query)) (tables_are o.tables o.schema)) sound

      pub no_type : type_asked o.schema o.query ≡ [] → RefusedBy xs lent 4 0
      unfolding pick by_checks some_ty
      no_type h = refused_at 4 (lit< tt) (sym (turned_sound ∙ ap (λ (ts : List Ty). by_checks true true (some_ty ts) (tables_are o.tables o.schema)) h))

      pub other_tables : (t : Ty) → type_asked o.schema o.query ≡ t ∷ [] → tables_are o.tables o.schema ≡ false → RefusedBy xs lent 5 0
      unfolding pick by_checks some_ty
      other_tables t e h =
          refused_at 5 (lit< tt)
          (sym (turned_sound ∙ (ap (λ (ts : List Ty). by_checks true true (some_ty ts) (tables_are o.tables o.schema)) e ∙ ap (λ (b : Bool). by_checks true true true b) h)))

-- none refuses a request that has passed
pub not_turned : (xs g : List ℕ) (a : Ask) (p : Passed xs g a) (lent : ℕ) → turned thin (ask p.schema p.tables p.query a.work lent) ≡ 0
unfolding pick by_checks some_ty
not_turned xs g a p lent =
    turned_ask p.schema p.tables p.query a.work lent
    ∙ (ap (λ (b : Bool). by_checks b (all_sound p.schema) (some_ty (type_asked p.schema p.query)) (tables_are p.tables p.schema)) (le-leb (size_s p.schema + size_q p.query) 8192 p.small)
    ∙ (ap (λ (b : Bool). by_checks true b (some_ty (type_asked p.schema p.query)) (tables_are p.tables p.schema)) p.sound
    ∙ (ap (λ (ts : List Ty). by_checks true true (some_ty ts) (tables_are p.tables p.schema)) p.typed
    ∙ ap (λ (b : Bool). by_checks true true true b) p.are)))
