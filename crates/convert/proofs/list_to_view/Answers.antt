use Rattle.std.proofs.Common.{◌≡◌, ℕ, ◌*◌, ◌<◌, length, sym, eqb-true, leb-true}
use Rattle.layout.specs.Spans.{Within, in_body}
use Rattle.array.specs.Lists.{list_seen, list_spans}
use Rattle.checks.specs.Checks.{absent_count}
use Rattle.list_array.specs.Offsets.{list_range, list_words}
use Rattle.convert.specs.Turning.{all_ok, offset_spans, list_ranges}
use Rattle.convert.proofs.ListTurning.{list_turns, turn_taken}
use Rattle.convert.proofs.Viewing.{viewed_leads}
use Rattle.convert.proofs.list_to_view.Goals as goal

pub returns-clause-leads : goal.returns-clause-leads
returns-clause-leads g c =
    let a = c.args.a.now in
    let b = c.args.body.now in
    let ledger = c.args.ledger.now in
    let w = g.O.ArrowNativeType.WIDTH in
    let array = g.C.Array in
    let s = a.slots in
    let size = array.size a.child in
    let child = array.spans a.child in
    let ranges = list_ranges w size a in
    let words = list_words w a.place s in
    let t = turn_taken ledger b (in_body (offset_spans w a.place s) b) a.field.nullable (absent_count array a.child b) (all_ok (ranges b) s.len) c.in_ok-check_turn.ensures.answers in
    let l : length b ≡ ledger.length = eqb-true _ _ t.0 in
    viewed_leads w array ledger c.viewed.new.ledger s a.field a.child ranges b c.viewed.new.body (list_seen s (array.entry a.child) (list_range w a.place s size) words child)
    ((k : ℕ) → Within (list_spans s words child) k → k < 8 * ledger.end) c.viewed.result c.viewed.ensures.answers c.viewed.ensures.account (c.viewed.ensures.leaves l)
    (λ p below. list_turns w g.met.O.OffsetSizeTrait.wide a.place s size (array.entry a.child) child (g.met.C.Array.entry_alike a.child) b ledger (sym l) (leb-true _ _ p) t.1 below)
