use Rattle.std.proofs.Common.{[], ap, sym}
use Rattle.expressions.specs.Calling.{asking}
use Rattle.store.specs.Stores.{supply}
use Rattle.expressions.proofs.Texts.{after_function, of_formatter}
use Rattle.expressions.proofs.emitting.write_call.Goals as goal

pub returns-in_ok-value-in-Some-Function : goal.returns-in_ok-value-in-Some-Function
returns-in_ok-value-in-Some-Function g c =
    let s = c.args.store.now in
    let named = g.C.Callables.named c.args.callables.now in
    let setting = asking (supply s) named (g.F.Formatter.formatted c.args.formatter.now) in
    after_function setting c.args.source.now [] c.args.call.name c.args.call.whole c.write_text.new.buffer c.write_text.result
    s c.ask_function.new.store c.in_ok-value-in-Some-Function.value _ (named c.text_under-callable.result.now) (ap named (sym c.text_under-callable.ensures))
    (cc (c.kind.ensures, c.in-Some-Function.is, c.in-Some-Function.field-0-is))
    c.in_ok-value-in-Some-Function.ensures (c.write_text.ensures setting c.args.source.now [])

pub returns-in-len1 : goal.returns-in-len1
returns-in-len1 g c =
    let s = c.args.store.now in
    let named = g.C.Callables.named c.args.callables.now in
    let setting = asking (supply s) named (g.F.Formatter.formatted c.args.formatter.now) in
    of_formatter setting c.args.source.now [] c.args.call.name c.args.call.whole c.write_named.new.buffer c.write_named.result
    s c.args.args.now _ (named c.text_under-callable.result.now) (ap named (sym c.text_under-callable.ensures))
    (cc (c.kind.ensures, c.in-Some-Formatter.is, c.in-Some-Formatter.field-0-is))
    c.in-len1.len_at_least c.in-len1.len_below (c.write_named.ensures setting c.args.source.now [])
