use Rattle.std.proofs.Common.{◌≡◌, ℕ, ◌*◌, ◌<◌, [], length, sym, eqb-true, leb-true}
use Rattle.layout.specs.Spans.{Within}
use Rattle.array.specs.Lists.{list_seen, list_spans}
use Rattle.fixed_size_list_array.specs.Fixed.{fixed_range}
use Rattle.convert.specs.Turning.{all_ok, starts_small, fixed_ranges}
use Rattle.convert.proofs.FixedTurning.{fixed_turns, fixed_taken}
use Rattle.convert.proofs.Viewing.{viewed_leads}
use Rattle.convert.proofs.fixed_to_view.Goals as goal

pub returns-clause-leads : goal.returns-clause-leads
returns-clause-leads g c =
    let a = c.args.a.now in
    let b = c.args.body.now in
    let ledger = c.args.ledger.now in
    let w = g.O.ArrowNativeType.WIDTH in
    let array = g.C.Array in
    let s = a.slots in
    let size = array.size a.child in
    let child = array.spans a.child in
    let ranges = fixed_ranges size a in
    let t = fixed_taken ledger b (all_ok (ranges b) s.len) (starts_small w a.size s.len) c.in_ok-check_fixed.ensures.answers in
    let l : length b ≡ ledger.length = eqb-true _ _ t.0 in
    viewed_leads w array ledger c.viewed.new.ledger s a.field a.child ranges b c.viewed.new.body (list_seen s (array.entry a.child) (λ d. fixed_range a.size size) [] child)
    ((k : ℕ) → Within (list_spans s [] child) k → k < 8 * ledger.end) c.viewed.result c.viewed.ensures.answers c.viewed.ensures.account (c.viewed.ensures.leaves l)
    (λ p below. fixed_turns w g.met.O.OffsetSizeTrait.wide a.size s size (array.entry a.child) child (g.met.C.Array.entry_alike a.child) b ledger (sym l) (leb-true _ _ p) t.1.0 t.1.1 below)
