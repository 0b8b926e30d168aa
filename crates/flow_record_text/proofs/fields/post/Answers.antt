use Rattle.std.proofs.Common.{◌≡◌, true, refl, rules}
use Rattle.std.specs.Result.{is_ok}
use Rattle.flow_value.specs.declared.value.Value.TheVariants.{Text}
use Rattle.flow_record_text.specs.Field.{text_in}
use Rattle.flow_record_text.proofs.RecordsPost.{set-values, set-endings, room-less}
use Rattle.flow_record_text.proofs.fields.post.Goals as goal

pub returns-clause-values : goal.returns-clause-values
returns-clause-values c =
    let good : is_ok c.push.result ≡ true = search rules in
    let items = rw (good, c.in_ok-text.ensures.is) at c.push.ensures.items in
    set-values c.args.posted.now.items c.args.input c.index_mut-slot.result.now _ (Text (text_in c.args.text)) c.requires c.index_mut-slot.ensures.value items

pub returns-clause-endings : goal.returns-clause-endings
returns-clause-endings c = set-endings c.args.posted.now.items c.args.input c.index_mut-slot.result.now _ c.index_mut-slot.ensures.value refl

pub returns-clause-room : goal.returns-clause-room
returns-clause-room c =
    let good : is_ok c.push.result ≡ true = search rules in
    let items = rw (good, c.in_ok-text.ensures.is) at c.push.ensures.items in
    room-less c.args.posted.now.items c.args.input c.index_mut-slot.result.now _ (Text (text_in c.args.text)) c.requires c.index_mut-slot.ensures.value items
