-- Only included templates, and only named functions and formatters count.
use Rattle.std.proofs.Common.{refl}
use Rattle.laws.specs.Included.{IsOne, OnlyIncludedTemplatesCount}
use Rattle.laws.specs.Called.{OnlyNamedCallablesCount}
use Rattle.laws.proofs.Statements.{Two, place_beside}
use Rattle.laws.proofs.Same.{Never, AsMuch, Any, uncut, same_supply, any_included, any_called_in}

pub only_included_templates_count : OnlyIncludedTemplatesCount
only_included_templates_count at templates names scope included closed finds =
    uncut (place_beside Never AsMuch two (λ name one template found. (closed name template one found, any_called_in template.source template.tree))
    at.more at.name at.source scope included (any_called_in at.source scope) at.visible at.visible (λ source v. refl) at.used at.used refl)
  where
    two : Two Never AsMuch
    two = record {
      default = at.setting.hosts.default_formatter;
      supply = at.setting.supply;
      supply' = at.setting.supply;
      fits = same_supply Never at.setting.supply;
      templates = at.setting.templates;
      templates' = templates;
      Known = IsOne names;
      finds = finds;
      callables = at.setting.hosts.callables;
      callables' = at.setting.hosts.callables;
      Called = Any;
      calls = λ name called. refl;
    }

pub only_named_callables_count : OnlyNamedCallablesCount
only_named_callables_count at callables names scope called closed calls =
    uncut (place_beside Never AsMuch two (λ name known template found. (any_included template.tree, closed name template found))
    at.more at.name at.source scope (any_included scope) called at.visible at.visible (λ source v. refl) at.used at.used refl)
  where
    two : Two Never AsMuch
    two = record {
      default = at.setting.hosts.default_formatter;
      supply = at.setting.supply;
      supply' = at.setting.supply;
      fits = same_supply Never at.setting.supply;
      templates = at.setting.templates;
      templates' = at.setting.templates;
      Known = Any;
      finds = λ name known. refl;
      callables = at.setting.hosts.callables;
      callables' = callables;
      Called = IsOne names;
      calls = calls;
    }
