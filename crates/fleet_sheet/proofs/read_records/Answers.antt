use Rattle.std.proofs.Common.{◌≡◌, ℕ, ◌+◌, ◌<◌, List, [], ◌∷◌, ◌++◌, map, length, sym, refl, ap, ◌∙◌, subst, append_assoc, append-nil, arith, length-append}
use mathlib.Core.List.{map-append}
use Rattle.std.specs.Slice.Iter.{chunks_exact_rest}
use Rattle.limits.specs.Limits.{record_size}
use Rattle.limits.proofs.Samples.{and_assoc}
use Rattle.event_list.specs.Events.{events_of, record_ok, wholes}
use Rattle.event_list.proofs.EventLaws.{length-records, event_next, event_end, ok_next, ok_last}
use Rattle.fleet_sheet.specs.Table.{Rising, Gathered, devices_in, rows_in, taken_count, taken_ids, taken_rows}
use Rattle.fleet_sheet.proofs.DeviceLaws.{rising-devices}
use Rattle.fleet_sheet.proofs.StandLaws.{small-rows}
use Rattle.fleet_sheet.proofs.SheetLaws.{read_to, read_none, read_few, read_next, read_over}
use Rattle.fleet_sheet.proofs.read_records.Goals as goal

-- what was read at the end
all_done : (x left : List ℕ) (done : List (List ℕ)) → length left < record_size → done ++ events_of left ≡ events_of x → done ≡ events_of x
all_done x left done h e = sym (append-nil done) ∙ ap (λ (es : List (List ℕ)). done ++ es) (sym (event_end left h)) ∙ e

pub loop-r-init : goal.loop-r-init
loop-r-init c =
    let a = c.args in
    let e = c.into_iter-r-iterator.ensures.into_iter_gives in
    let x = c.chunks_exact-r-items.ensures in
    rw (e, x.rest, x.size)
    (record { size = refl; split = refl; tested = and_assoc a.t.ok _ _; gathered = λ ms g. subst (Gathered (devices_in a.table.now) (rows_in a.table.now) a.t.devices) (read_none ms) g })

pub taken-n-requires : goal.taken-n-requires
taken-n-requires c =
    let a = c.args in
    let l = c.loop-r in
    let v = l.invariant in
    let x = a.«records».now in
    let s = c.in-Some.ensures.steps in
    let whole = s.1.1 ∙ v.size in
    let u = c.if-n-le-MOST_DEVICES.true in
    let ms = c.requires.1.messages in
    let done = map (λ r. r.now) l.yielded in
    let st = (v.gathered ms c.requires.1.held.gathered).under u in
    let n = ap length v.split in
    let few = read_few ms done a.t.«records» c.requires.1.held.few in
    let small = small-rows (devices_in l.table) (rows_in l.table) l.n (read_to ms done) st [] (omega (arith, few, n, length-append done (events_of (chunks_exact_rest l.r-iterator)), length-records (wholes x) x, c.requires.0)) in
    (u, subst Rising (sym st.named) (rising-devices (read_to ms done)), small)

pub loop-r-preserved-then-n-le-MOST_DEVICES : goal.loop-r-preserved-then-n-le-MOST_DEVICES
loop-r-preserved-then-n-le-MOST_DEVICES c =
    let l = c.loop-r in
    let v = l.invariant in
    let s = c.in-Some.ensures.steps in
    let whole = s.1.1 ∙ v.size in
    let r = c.in-Some.r.now in
    let w = c.taken-n in
    let same = c.new-event.ensures in
    let done = map (λ r. r.now) l.yielded in
    let more = map-append (λ r. r.now) l.yielded (c.in-Some.r ∷ []) in
    rw more (record {
      size = s.0 ∙ v.size;
      split = append_assoc done (r ∷ []) _ ∙ ap (λ es. done ++ es) (sym (event_next _ _ _ s.1.0 whole)) ∙ v.split;
      tested = ok_next _ _ _ s.1.0 whole l.ok _ _ (c.record_ok-ok.ensures ∙ ap record_ok c.new-event.ensures) v.tested;
      gathered = λ ms g. read_next ms done r (devices_in l.table) (rows_in l.table) l.n c.if-n-le-MOST_DEVICES.true (v.gathered ms g) w.result (devices_in w.new.table) (rows_in w.new.table) (w.ensures.0 ∙ ap (λ (e : List ℕ). taken_count e l.n (devices_in l.table)) same, w.ensures.1 ∙ ap (λ (e : List ℕ). taken_ids e l.n (devices_in l.table)) same, w.ensures.2 ∙ ap (λ (e : List ℕ). taken_rows e l.n (devices_in l.table) (rows_in l.table)) same);
    })

pub loop-r-preserved : goal.loop-r-preserved
loop-r-preserved c =
    let l = c.loop-r in
    let v = l.invariant in
    let s = c.in-Some.ensures.steps in
    let whole = s.1.1 ∙ v.size in
    let r = c.in-Some.r.now in
    let done = map (λ r. r.now) l.yielded in
    let more = map-append (λ r. r.now) l.yielded (c.in-Some.r ∷ []) in
    rw more (record {
      size = s.0 ∙ v.size;
      split = append_assoc done (r ∷ []) _ ∙ ap (λ es. done ++ es) (sym (event_next _ _ _ s.1.0 whole)) ∙ v.split;
      tested = ok_next _ _ _ s.1.0 whole l.ok _ _ (c.record_ok-ok.ensures ∙ ap record_ok c.new-event.ensures) v.tested;
      gathered = λ ms g. read_over ms done r (devices_in l.table) (rows_in l.table) l.n c.if-n-le-MOST_DEVICES.false (v.gathered ms g);
    })

pub returns : goal.returns
returns c =
    let a = c.args in
    let l = c.loop-r in
    let h : length (chunks_exact_rest l.r-iterator) < record_size = omega (arith, c.in-None.ensures.steps.1.0, l.invariant.size) in
    let all = all_done a.«records».now _ _ h l.invariant.split in (
      refl,
      ok_last _ h l.ok _ l.invariant.tested,
      λ ms g. record {
        gathered = rw (← all) (l.invariant.gathered ms g.gathered);
        few = omega (arith, g.few, read_few ms (events_of a.«records».now) a.t.«records» g.few, length-records (wholes a.«records».now) a.«records».now);
      },
    )
