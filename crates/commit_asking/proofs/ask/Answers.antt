-- `ask` meets its contract: the ID is one more, the record is the one that the entry names. Assumes nothing.
use Prim.Native.Nat.{ℕ}
use mathlib.Core.Path.{◌≡◌, refl, ap, ap₂, ◌∙◌}
use mathlib.Core.List.{List}
use lib.ListN.{length, replicate}
use Rattle.std.proofs.Math.Seq.{take-length}
use Rattle.octet.specs.Part.{part, splice}
use Rattle.record.specs.Entry.{record_of}
use Rattle.table.specs.Rows.{rows, bytes_of}
use Rattle.waiting.specs.Open.{opened}
use Rattle.waiting.specs.Place.{inquiry_place}
use Rattle.wire_write.specs.Making.{inquire_made}
use Rattle.asking.specs.Ids.{id_after}
use Rattle.gauge_commit.proofs.SentLaws.{named_is}
use borrow.Author.Rules.{rules}
use Rattle.commit_asking.proofs.ask.Goals as goal

pub returns : goal.returns
returns c =
    let at-open-inquiry = c in
    let at-put-record = c in
    let at-id-after = c in
    let s = c in
    let a = s.args in
    let v = a.entry.now in
    let whole : part 0 (length v) v ≡ v = take-length v in
    let r : at-put-record.put_record.new.dst ≡ record_of v = named_is v _ s.requires.4 refl (at-put-record.put_record.ensures ∙ ap (λ (l : List ℕ). splice 0 (record_of l) (replicate 100 0)) whole) in
    let i : at-id-after.id_after.result ≡ id_after a.head.id = at-id-after.id_after.ensures in record {
      waiting_after = at-open-inquiry.open_inquiry.ensures
          ∙ ap₂ (λ (n : ℕ) (l : List ℕ). bytes_of 2240 (opened (inquiry_place n l) (rows 140 a.used a.waiting.now))) i r;
      output_after = c.send_inquire.ensures
          ∙ ap₂ (λ (n : ℕ) (l : List ℕ). splice a.at (inquire_made a.head.major a.head.minor n (part 0 32 l) a.nonce.now).bytes
          a.output.now) i r;
    }
